-- Setting the value of a property at a path, and why that may be refused. Paths are those of look-ups
-- (Devicetree Specification 0.4, section 2.2.3). Where a new property or node is put is this project's choice.
use Rattle.std.specs.Prelude.{ℕ, List, [], ◌∷◌, length, Bool, true, Option, Some, None, Result, Ok, Err, nat_lt, ◌&&◌, if◌then◌else◌}
use Rattle.std.specs.Str.{bytes_eq}
use Rattle.fdt_header.specs.declared.fault.FdtFault.{FdtFault}
use Rattle.fdt_header.specs.declared.fault.FdtFault.TheVariants.{BadName, TooDeep}
use Rattle.fdt_tree.specs.Devicetree.{Branch, Devicetree, Nodes, PropertyData, Root, bare, branch_of_root, node, none}
use Rattle.fdt_tree.specs.Names.{legal}
use Rattle.fdt_tree.specs.Lookup.{names_on}
use Rattle.fdt_tree.specs.declared.reading.lexing.TheConstants.{DEPTH_LIMIT}
use Rattle.refusal.specs.Answer.{◌>>=◌}

-- the first property of the name gets the value; where none has the name, one is added at the end
abbrev pub with_value : List ℕ → List ℕ → List PropertyData → List PropertyData
with_value name value [] = record { name = name; value = value } ∷ []
with_value name value (e ∷ es) =
    if bytes_eq e.name name then record { name = e.name; value = value } ∷ es else e ∷ with_value name value es

abbrev pub value_put : List ℕ → List ℕ → Branch → Branch
value_put name value b = record b { properties = with_value name value b.properties }

abbrev pub in_front_of : Nodes → Branch → Nodes
in_front_of next b = node b.name b.properties b.children next

-- the first node whose name passes the test is edited; where none passes, the new one is added at the end
abbrev pub first_such : (List ℕ → Bool) → (Branch → Branch) → Branch → Nodes → Nodes
first_such test edit new none = in_front_of none new
first_such test edit new (node n properties children next) =
    if test n then in_front_of next (edit (record { name = n; properties = properties; children = children }))
    else node n properties children (first_such test edit new next)

-- the first node of the name is edited; where none has the name, an empty one is edited and added at the end
abbrev pub first_edited : List ℕ → (Branch → Branch) → Nodes → Nodes
first_edited name edit nodes = first_such (λ n. bytes_eq n name) edit (edit (bare name)) nodes

-- the node that the names lead to is edited
abbrev pub edited_below : List (List ℕ) → (Branch → Branch) → Branch → Branch
edited_below [] edit b = edit b
edited_below (name ∷ names) edit b = record b { children = first_edited name (edited_below names edit) b.children }

abbrev pub all_legal : List (List ℕ) → Bool
all_legal [] = true
all_legal (name ∷ names) = legal name && all_legal names

abbrev pub root_in : Branch → Root
root_in b = record { properties = b.properties; children = b.children }

abbrev pub with_root : Devicetree → Branch → Devicetree
with_root t b = record t { root = root_in b }

-- the names of the path and of the property are legal, and no node is made deeper than the limit
abbrev pub check_names : List (List ℕ) → List ℕ → Result (Unit {0}) FdtFault
check_names names name =
    if all_legal names then (if legal name then (if nat_lt (length names) DEPTH_LIMIT then Ok tt else Err TooDeep) else Err BadName)
    else Err BadName

abbrev pub path_names : Option (List (List ℕ)) → Result (List (List ℕ)) FdtFault
path_names None = Err BadName
path_names (Some names) = Ok names

-- the tree with this value; or the first refusal
unfoldable pub set_at : List ℕ → List ℕ → List ℕ → Devicetree → Result Devicetree FdtFault
set_at path name value t = do
  names ← path_names (names_on path)
  _ ← check_names names name
  Ok (with_root t (edited_below names (value_put name value) (branch_of_root t.root)))
