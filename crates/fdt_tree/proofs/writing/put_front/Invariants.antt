use Rattle.std.proofs.Common.{ℕ, List, ◌∷◌, take}
use Rattle.fdt_tree.specs.Devicetree.{begin_node}
use Rattle.fdt_tree.specs.inside.NameTables.{HasNames}
use Rattle.fdt_tree.specs.inside.OutputViews.{HasTokens, tokens_of_properties}
use Rattle.fdt_tree.proofs.writing.put_front.Given as goal

abbrev pub invariant-loop-pair : goal.invariant-loop-pair
invariant-loop-pair l =
    (names : List (List ℕ)) → HasNames l.strings l.fn.out.names names
    → HasTokens l.strings l.fn.out l.out names (begin_node l.fn.name ∷ tokens_of_properties l.strings (take l.pair-index l.properties))
