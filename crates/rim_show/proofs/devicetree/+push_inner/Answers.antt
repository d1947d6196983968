use Rattle.std.proofs.Common.{◌≡◌, ◌++◌, ◌∙◌, map, refl, ap}
use Rattle.std.specs.List.{flat_map}
use Rattle.fdt_tree.specs.NodeViews.{property_data}
use Rattle.fdt_tree.specs.declared.node.Node.TheViews.{out-Node}
use Rattle.rim_show.specs.ShownDevicetree.{node_line, path_below, property_line}
use Rattle.rim_show.proofs.TextsOfNodes.{all_told, child_step, cut_back, none_yet}
use Rattle.rim_show.proofs.devicetree.+push_inner.Goals as goal

pub loop-child-init : goal.loop-child-init
loop-child-init t c = record { path = refl; text = none_yet _ _ }

pub loop-child-preserved : goal.loop-child-preserved
loop-child-preserved t c =
    let n = c.child-item.result in
    let stepped : c.push_step.new.path.items ≡ path_below c.loop-child.path.items (out-Node n).name.items =
    rw (← c.as_slice.ensures.value) c.in_ok-push_step.ensures in
    record {
      path = rw (c.truncate.ensures.items, c.as_slice-above.ensures.value, c.in_ok-push_inner.ensures.path) (cut_back _ _ _ _ stepped c.loop-child.invariant.path);
      text = child_step _ _ _ _ _ _ c.push_step.new.path.items _ _ n c.loop-child-test.true c.child-item.is
          (stepped ∙ ap (λ p. path_below p (out-Node n).name.items) c.loop-child.invariant.path)
          c.loop-child.invariant.text
          (c.in_ok-push_path.ensures ∙ ap (λ p. c.loop-child.text.items ++ node_line p) c.as_slice-in-loop-child.ensures.value) c.in_ok-push_inner.ensures.text;
    }

pub returns-clause-text : goal.returns-clause-text
returns-clause-text t c =
    all_told _ _ _ c.push_properties.new.text.items _ c.deref-child-items.result.now _ c.args.node.now c.loop-child-test.false c.deref-child-items.ensures.value
    (c.in_ok-push_properties.ensures ∙ ap (λ ps. c.args.text.now.items ++ flat_map property_line (map (property_data c.args.strings.now) ps)) c.deref.ensures.value) c.loop-child.invariant.text
