-- What always holds of a tree in memory. This project's choice.
use Rattle.std.specs.Prelude.{ℕ, ◌+◌, List, [], ◌∷◌}
use Rattle.std.specs.Coded.{le_prop}
use Rattle.std.proofs.Math.Bool.{Bool-set}
use Rattle.fdt_tree.specs.declared.tree.Reservation.{Reservation}
use Rattle.fdt_tree.specs.declared.tree.Contents.{Contents}
use Rattle.fdt_tree.specs.Devicetree.{PropertyData, Nodes, none, node, Devicetree}
use Rattle.fdt_tree.specs.Names.{AreLegal, IsLegal}
use Rattle.fdt_tree.specs.NodeViews.{root_of}
use Rattle.fdt_tree.specs.Reservations.{AreReservations}

-- the devicetree that a tree in memory is
abbrev pub tree_in : Contents → Devicetree
tree_in c = record {
  reservations = c.reservations.items;
  boot_cpu = c.boot_cpu;
  root = root_of c.strings.items c.root;
}

-- No reservation is a pair of zeros, names are legal, and no node is deeper than 64.
pub record IsWhole (t : Devicetree) : Type 0 where
  pub reservations : AreReservations t.reservations
  pub properties : AreLegal t.root.properties
  pub children : IsLegal 1 t.root.children

-- each of these facts has one proof at most
pub AreReservations-prop : (rs : List Reservation) → IsProp (AreReservations rs)
AreReservations-prop [] = hlevel
AreReservations-prop (r ∷ rs) = hlevel (le_prop, AreReservations-prop rs)

pub AreLegal-prop : (es : List PropertyData) → IsProp (AreLegal es)
AreLegal-prop [] = hlevel
AreLegal-prop (e ∷ es) = hlevel (Bool-set, AreLegal-prop es)

pub IsLegal-prop : (depth : ℕ) (f : Nodes) → IsProp (IsLegal depth f)
IsLegal-prop depth none = hlevel
IsLegal-prop depth (node name properties children next) =
    hlevel (le_prop, Bool-set, AreLegal-prop properties, IsLegal-prop (depth + 1) children, IsLegal-prop depth next)

pub IsWhole-prop : (t : Devicetree) → IsProp (IsWhole t)
IsWhole-prop t =
    hlevel (AreReservations-prop t.reservations, AreLegal-prop t.root.properties, IsLegal-prop 1 t.root.children)
