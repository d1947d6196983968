use Rattle.std.proofs.Common.{get_or}
use Rattle.rim_accepted.proofs.OutcomesInTurn.{outcome-is, outcomes-next}
use Rattle.rim_accepted.proofs.release.accept_all.Goals as goal

pub loop-launch-preserved : goal.loop-launch-preserved
loop-launch-preserved c =
    outcomes-next _ c.all_launches-launch-items.result.now c.loop-launch.launch-index c.launch-item.result _ _ c.in_ok-accept.field-0
    c.loop-launch-test.true
    (outcome-is _ (get_or c.all_launches-launch-items.result.now c.loop-launch.launch-index c.launch-item.result) _ c.in_ok-accept.field-0
    c.launch-item.is c.in_ok-accept.ensures.reason c.in_ok-accept.ensures.own c.in_ok-accept.ensures.own_refusal)
    c.in_ok-push.ensures.items c.loop-launch.invariant
