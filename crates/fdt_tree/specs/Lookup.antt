-- Looking up a property by the path of its node: Devicetree Specification 0.4, section 2.2.3. Names
-- are compared whole, with their unit addresses. Of equal names the first is found.
use Rattle.std.specs.Prelude.{ℕ, List, [], ◌∷◌, Option, Some, None, option_and_then, ◌==◌, if◌then◌else◌}
use Rattle.std.specs.Str.{bytes_eq}
use Rattle.fdt_tree.specs.Devicetree.{PropertyData, Nodes, none, node, Branch, branch_of_root, Devicetree}

-- the byte is put before the first text
abbrev pub put_first : ℕ → List (List ℕ) → List (List ℕ)
put_first c [] = (c ∷ []) ∷ []
put_first c (name ∷ names) = (c ∷ name) ∷ names

-- the texts between the slashes
abbrev pub between_slashes : List ℕ → List (List ℕ)
between_slashes [] = [] ∷ []
between_slashes (c ∷ cs) = if c == 47 then [] ∷ between_slashes cs else put_first c (between_slashes cs)

-- The names of a path: none for `/`, else each name comes after a slash. Other texts are no paths.
abbrev pub names_on : List ℕ → Option (List (List ℕ))
names_on [] = None
names_on (c ∷ []) = if c == 47 then Some [] else None
names_on (c ∷ (d ∷ cs)) = if c == 47 then Some (between_slashes (d ∷ cs)) else None

-- the first node of this name
abbrev pub first_named : List ℕ → Nodes → Option Branch
first_named name none = None
first_named name (node n properties children next) =
    if bytes_eq n name then Some (record { name = n; properties = properties; children = children }) else first_named name next

-- the node that the names lead to
abbrev pub node_below : List (List ℕ) → Branch → Option Branch
node_below [] b = Some b
node_below (name ∷ names) b = option_and_then (node_below names) (first_named name b.children)

-- the value of the first property of this name
abbrev pub first_value : List ℕ → List PropertyData → Option (List ℕ)
first_value name [] = None
first_value name (e ∷ es) = if bytes_eq e.name name then Some e.value else first_value name es

abbrev pub node_at : List ℕ → Branch → Option Branch
node_at path b = option_and_then (λ names. node_below names b) (names_on path)

-- the value of this property of the node at this path
abbrev pub value_at : List ℕ → List ℕ → Devicetree → Option (List ℕ)
value_at path name t = option_and_then (λ b. first_value name b.properties) (node_at path (branch_of_root t.root))
