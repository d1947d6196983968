-- The text that shows a devicetree. This project's choice.
use Rattle.std.specs.Prelude.{◌≡◌, ℕ, List, [], ◌∷◌, ◌++◌, codes, Some}
use Rattle.std.specs.Fmt.{decimal}
use Rattle.std.specs.List.{flat_map}
use Rattle.hex.specs.Hex.{encode_lower}
use Rattle.fdt_tree.specs.Devicetree.{Branch, Devicetree, PropertyData, Nodes, Root, none, node}
use Rattle.fdt_tree.specs.Reading.{Spells, refusal_of}
use Rattle.fdt_tree.specs.declared.tree.Reservation.{Reservation}
use Rattle.rim_desc.specs.Number.{digits_of}
use Rattle.rim_show.specs.declared.fault.ShowFault.{ShowFault}
use Rattle.rim_show.specs.declared.fault.ShowFault.TheVariants as show

-- the number of the processor that boots
abbrev pub boot_line : ℕ → List ℕ
boot_line cpu = (codes "boot_cpu " ++ decimal cpu) ++ codes "\n"

-- the address and the size of a reservation
unfoldable pub reservation_line : Reservation → List ℕ
reservation_line r = (((codes "reserve " ++ digits_of r.address) ++ codes " ") ++ digits_of r.size) ++ codes "\n"

-- the bytes of a value, where it has some
abbrev pub value_text : List ℕ → List ℕ
value_text [] = []
value_text (b ∷ bs) = codes " " ++ encode_lower (b ∷ bs)

-- a property
unfoldable pub property_line : PropertyData → List ℕ
property_line e = ((codes "prop " ++ e.name) ++ value_text e.value) ++ codes "\n"

-- the path of a node
unfoldable pub node_line : List ℕ → List ℕ
node_line path = (codes "node " ++ path) ++ codes "\n"

-- the path of a child
abbrev pub path_below : List ℕ → List ℕ → List ℕ
path_below path name = (path ++ codes "/") ++ name

-- siblings below a path, each with its properties and before its children
unfoldable pub nodes_text : List ℕ → Nodes → List ℕ
nodes_text path none = []
nodes_text path (node name properties children next) =
    ((node_line (path_below path name) ++ flat_map property_line properties) ++ nodes_text (path_below path name) children) ++ nodes_text path next

-- what a node holds
abbrev pub inner_text : List ℕ → Branch → List ℕ
inner_text path b = flat_map property_line b.properties ++ nodes_text path b.children

abbrev pub root_text : Root → List ℕ
root_text r = node_line (codes "/") ++ inner_text [] (record { name = []; properties = r.properties; children = r.children })

-- the whole text
abbrev pub devicetree_text : Devicetree → List ℕ
devicetree_text t = (boot_line t.boot_cpu ++ flat_map reservation_line t.reservations) ++ root_text t.root

-- a text shows the devicetree that the bytes spell
abbrev pub ShowsDevicetree : List ℕ → List ℕ → Type 0
ShowsDevicetree bytes text = (t : Devicetree) × Spells bytes t × (text ≡ devicetree_text t)

-- a fault is why the bytes are refused, or want of memory
abbrev pub IsDevicetreeFault : List ℕ → ShowFault → Type 0
IsDevicetreeFault bytes (show.Dtb fault) = refusal_of bytes ≡ Some fault
IsDevicetreeFault bytes show.NoMemory = Unit {0}
IsDevicetreeFault bytes (show.Image fault) = ⊥
