use Rattle.std.proofs.Common.{◌∙◌, List, ap, arith, map}
use Rattle.std.proofs.lemmas.List.{map-append}
use Rattle.serde_json.specs.View.{view}
use Rattle.serde_json.specs.declared.value.Value.{Value}
use Rattle.rim_manifest.specs.Launches.{item_name}
use Rattle.launch_json.proofs.ItemsAsJson.{stated-next}
use Rattle.launch_json.proofs.items.stated_values.Goals as goal

pub loop-item-preserved : goal.loop-item-preserved
loop-item-preserved c = (
  ap (λ (vs : List Value). map view vs) c.in_ok-push.ensures.items
      ∙ map-append view c.loop-item.values.items _
      ∙ stated-next _ (item_name c.args.shown.launch.now) c.args.shown.release.now.paths c.items-items.result.now c.loop-item.item-index
      c.item-item.result _ _ _ c.loop-item-test.true c.item-item.is c.loop-item.invariant.0
      c.in_ok-stated_value.ensures (c.len.ensures ∙ c.loop-item.invariant.1),
  omega (arith, c.in_ok-push.ensures.len, c.loop-item.invariant.1),
)
