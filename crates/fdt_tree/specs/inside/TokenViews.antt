-- Which token a token in memory is, given the strings block. This project's choice.
use Rattle.std.specs.Prelude.{◌≡◌, ℕ, ◌<◌, List, take, drop, false}
use Rattle.fdt_tree.specs.declared.reading.lexing.Token.{Token as Read}
use Rattle.fdt_tree.specs.declared.reading.lexing.Token.TheVariants.{Begin, Property, EndNode, Nop, Finish}
use Rattle.fdt_tree.specs.declared.reading.place.Place.{Place}
use Rattle.fdt_tree.specs.Devicetree.{Token, begin_node, property, end_node, nop, finish}

abbrev pub as_token : List ℕ → Read → Token
as_token strings (Begin name) = begin_node name.now
as_token strings (Property start len value) =
    property (record { name = take len (drop start strings); value = value.now })
as_token strings EndNode = end_node
as_token strings Nop = nop
as_token strings Finish = finish

-- a node ends only where one is open, and a property comes before the children
abbrev pub FitsPlace : Place → Read → Type 0
FitsPlace p (Begin name) = Unit {0}
FitsPlace p (Property start len value) = p.late ≡ false
FitsPlace p EndNode = 0 < p.depth
FitsPlace p Nop = Unit {0}
FitsPlace p Finish = p.depth ≡ 0
