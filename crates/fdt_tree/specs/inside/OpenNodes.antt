-- What the reader holds between two tokens: the nodes that are open. This project's choice.
use Rattle.std.specs.Prelude.{ℕ, List, [], ◌∷◌, ◌++◌, length, map, Bool, true, false}
use Rattle.fdt_tree.specs.declared.reading.place.Place.{Place}
use Rattle.fdt_tree.specs.declared.reading.structure.OpenNodes.{OpenNodes}
use Rattle.fdt_tree.specs.Devicetree.{PropertyData, Nodes, none, node, Branch, Token, begin_node, property, end_node, nop, finish, tokens}
use Rattle.fdt_tree.specs.NodeViews.{branch, branches}

-- a node with one more property
abbrev pub with_property : Branch → PropertyData → Branch
with_property b e = record b { properties = b.properties ++ e ∷ [] }

-- nodes and one more after them
abbrev pub followed : Nodes → Branch → Nodes
followed none b = node b.name b.properties b.children none
followed (node name properties children next) b = node name properties children (followed next b)

-- a node with one more child
abbrev pub with_child : Branch → Branch → Branch
with_child b child = record b { children = followed b.children child }

abbrev pub has_any : Nodes → Bool
has_any none = false
has_any (node name properties children next) = true

-- the tokens of a node up to its last child
abbrev pub opened : Branch → List Token
opened b = begin_node b.name ∷ (map property b.properties ++ tokens b.children)

abbrev pub all_opened : List Branch → List Token
all_opened [] = []
all_opened (b ∷ bs) = opened b ++ all_opened bs

-- the tokens of the nodes that are open, from the outermost
abbrev pub so_far : List ℕ → OpenNodes → List Token
so_far strings p = all_opened (branches strings p.outer.items) ++ opened (branch strings p.current)

abbrev pub place_of : List ℕ → OpenNodes → Place
place_of strings p = record { depth = length p.outer.items; late = has_any (branch strings p.current).children }

-- what a token adds
abbrev pub added : Token → List Token
added nop = []
added finish = []
added end_node = end_node ∷ []
added (begin_node name) = begin_node name ∷ []
added (property e) = property e ∷ []
