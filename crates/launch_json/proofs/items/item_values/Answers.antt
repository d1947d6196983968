use Rattle.std.proofs.Common.{inl, inr}
use Rattle.launch_json.proofs.ItemsAsJson.{items-over}
use Rattle.launch_json.proofs.items.item_values.Goals as goal

pub returns : goal.returns
returns c = items-over _ _ _ _ _ _ _ (elim c.in-None.ensures.steps [ inl first ↦ inl first.1.0 | inr second ↦ inr second.1.0 ]) c.loop-item.invariant
