use Rattle.std.proofs.Common.{◌≡◌, ◌++◌, map, take}
use Rattle.std.specs.List.{flat_map}
use Rattle.fdt_tree.specs.NodeViews.{property_data}
use Rattle.rim_show.specs.ShownDevicetree.{property_line}
use Rattle.rim_show.proofs.devicetree.push_properties.Given as goal

abbrev pub invariant-loop-property : goal.invariant-loop-property
invariant-loop-property l = l.text.items ≡ l.initial.text.items ++ flat_map property_line (map (property_data l.strings) (take l.property-index l.properties))
