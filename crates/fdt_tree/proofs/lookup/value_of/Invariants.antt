use Rattle.std.proofs.Common.{◌≡◌, drop, map}
use Rattle.fdt_tree.specs.NodeViews.{property_data}
use Rattle.fdt_tree.specs.Lookup.{first_value}
use Rattle.fdt_tree.proofs.lookup.value_of.Given as goal

abbrev pub invariant-loop-property : goal.invariant-loop-property
invariant-loop-property l =
    first_value l.name (map (property_data l.strings) (drop l.property-index l.property-items)) ≡ first_value l.name
    (map (property_data l.strings) l.property-items)
