-- Which names are legal. The Devicetree Specification 0.4 lists the characters of node names (2.2.1) and of
-- property names (2.2.4). Devicetrees in use have others too, so this project accepts every visible ASCII
-- character except `/`, which separates the names of a path.
use Rattle.std.specs.Prelude.{ℕ, ◌+◌, ◌<◌, List, [], ◌∷◌, length, Bool, true, false, nat_lt, ◌==◌, ◌&&◌, not, cond, IsTrue}
use Rattle.fdt_tree.specs.Devicetree.{Nodes, PropertyData, node, none}
use Rattle.fdt_tree.specs.declared.reading.lexing.TheConstants.{DEPTH_LIMIT}

abbrev pub is_name_character : ℕ → Bool
is_name_character c = nat_lt 32 c && nat_lt c 127 && not (c == 47)

abbrev pub all_name_characters : List ℕ → Bool
all_name_characters [] = true
all_name_characters (c ∷ cs) = cond (is_name_character c) (all_name_characters cs) false

-- a name of a property, or of a node other than the root
abbrev pub legal : List ℕ → Bool
legal name = nat_lt 0 (length name) && all_name_characters name

abbrev pub AreLegal : List PropertyData → Type 0
AreLegal [] = Unit {0}
AreLegal (e ∷ es) = IsTrue (legal e.name) × AreLegal es

-- All names are legal and no node is deeper than 64, given `depth` open nodes around these (the root has
-- depth 1).
abbrev pub IsLegal : ℕ → Nodes → Type 0
IsLegal depth none = Unit {0}
IsLegal depth (node name properties children next) =
    (depth < DEPTH_LIMIT) × IsTrue (legal name) × AreLegal properties × IsLegal (depth + 1) children × IsLegal depth next
