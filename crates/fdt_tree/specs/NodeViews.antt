-- Which nodes of a devicetree the nodes in memory are, given the strings of their tree. How they are kept is this project's
-- choice.
use Rattle.std.specs.Prelude.{ℕ, List, map, take, drop}
use Rattle.fdt_tree.specs.declared.node.Name.{Name}
use Rattle.fdt_tree.specs.declared.node.Name.TheVariants.{Shared, Own}
use Rattle.fdt_tree.specs.declared.node.Node.{Node}
use Rattle.fdt_tree.specs.declared.node.Node.TheOpen.{Node-F}
use Rattle.fdt_tree.specs.declared.node.Node.TheFolds.{fold-Node}
use Rattle.fdt_tree.specs.declared.node.Property.{Property}
use Rattle.fdt_tree.specs.Devicetree.{PropertyData, Root, Branch, joined}

abbrev pub name_of : List ℕ → Name → List ℕ
name_of strings (Shared start len) = take len (drop start strings)
name_of strings (Own bytes) = bytes.items

abbrev pub property_data : List ℕ → Property → PropertyData
property_data strings p = record { name = name_of strings p.name; value = p.value.items }

abbrev pub branch_step : List ℕ → Node-F Branch → Branch
branch_step strings n =
    record { name = n.name.items; properties = map (property_data strings) n.properties.items; children = joined n.children.items }

-- the node that a node in memory is
abbrev pub branch : List ℕ → Node → Branch
branch strings = fold-Node Branch (branch_step strings)

abbrev pub branches : List ℕ → List Node → List Branch
branches strings ns = map (branch strings) ns

-- the root of a tree
abbrev pub root_of : List ℕ → Node → Root
root_of strings n = record { properties = (branch strings n).properties; children = (branch strings n).children }
