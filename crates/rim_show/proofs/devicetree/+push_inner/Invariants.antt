use Rattle.std.proofs.Common.{◌≡◌, ◌++◌, take}
use Rattle.fdt_tree.specs.Devicetree.{joined}
use Rattle.fdt_tree.specs.NodeViews.{branches}
use Rattle.rim_show.specs.ShownDevicetree.{nodes_text}
use Rattle.rim_show.proofs.devicetree.+push_inner.Given as goal

abbrev pub invariant-loop-child : goal.invariant-loop-child
invariant-loop-child l = record {
  path : l.path.items ≡ l.initial.path.items;
  text : l.text.items ≡ l.initial.text.items ++ nodes_text l.initial.path.items (joined (branches l.strings (take l.child-index l.child-items)));
}
