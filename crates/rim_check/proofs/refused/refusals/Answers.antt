use Rattle.std.proofs.Common.{List, Result, arith, subst, sym}
use Rattle.rim_accepted.specs.Outcomes.{AreOutcomes}
use Rattle.rim_accepted.specs.declared.accepted.AcceptedLaunch.{AcceptedLaunch}
use Rattle.rim_accepted.specs.declared.refused.RefusedLaunch.{RefusedLaunch}
use Rattle.rim_accepted.proofs.OutcomesInTurn.{as-many}
use Rattle.rim_check.proofs.RefusalsInTurn.{all-refusals, refusals-next}
use Rattle.rim_check.proofs.refused.refusals.Goals as goal

pub loop-outcome-preserved : goal.loop-outcome-preserved
loop-outcome-preserved c =
    let v = c.args.accepted.now in
    let os : List (Result AcceptedLaunch RefusedLaunch) = c.outcomes-outcomes.result.now in
    let own : AreOutcomes v.files v.release.launches os
    = subst (AreOutcomes v.files v.release.launches) (sym c.outcomes-outcomes.ensures.value) c.outcomes-outcomes.ensures.own.2 in
    refusals-next v.files v.release.launches os c.loop-outcome.outcome-index c.outcome-item.result c.loop-outcome.remarks.items _
    c.in_ok-refusal_of.field-0 own c.loop-outcome-test.true (rw (← c.outcome-item.is) (c.in_ok-refusal_of.ensures v.files)) c.in_ok-push.ensures.items
    c.loop-outcome.invariant

pub returns : goal.returns
returns c =
    let v = c.args.accepted.now in
    let os : List (Result AcceptedLaunch RefusedLaunch) = c.outcomes-outcomes.result.now in
    let own : AreOutcomes v.files v.release.launches os
    = subst (AreOutcomes v.files v.release.launches) (sym c.outcomes-outcomes.ensures.value) c.outcomes-outcomes.ensures.own.2 in
    all-refusals v.files v.release.launches c.loop-outcome.outcome-index c.loop-outcome.remarks.items
    (omega (arith, as-many v.files v.release.launches os own, c.loop-outcome-test.false)) c.loop-outcome.invariant
