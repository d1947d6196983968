use Rattle.std.proofs.Common.{◌∙◌, ◌+◌, List, Vec, Global, Result, ap, arith, sym, subst, take}
use Rattle.launch_plan.specs.Links.{PlanView}
use Rattle.rim_accepted.specs.Outcomes.{AreOutcomes}
use Rattle.rim_accepted.specs.declared.accepted.AcceptedLaunch.{AcceptedLaunch}
use Rattle.rim_accepted.specs.declared.refused.RefusedLaunch.{RefusedLaunch}
use Rattle.rim_report.specs.Plans.{ArePlans}
use Rattle.rim_report.proofs.PlansInTurn.{all-plans-added, none-added, plan-added}
use Rattle.rim_report.proofs.plans.accepted_plans.Goals as goal
use Rattle.rim_report.proofs.plans.accepted_plans.Goals.{in-Ok+in_ok-plan+in_ok-push, in_default}

pub loop-outcome-preserved : goal.loop-outcome-preserved
loop-outcome-preserved c =
    let v = c.args.accepted.now in
    let rs : List (Result AcceptedLaunch RefusedLaunch) = c.outcomes-outcome-items.result.now in
    let are : AreOutcomes v.files v.release.launches rs
    = subst (AreOutcomes v.files v.release.launches) (sym c.outcomes-outcome-items.ensures.value) c.outcomes-outcome-items.ensures.own.2 in
    elim c.match-outcome.branch [
      | in-Ok+in_ok-plan+in_ok-push w ↦ plan-added v.files v.release.launches rs are c.loop-outcome.outcome-index c.outcome-item.result
          w.in-Ok.accepted w.in_ok-plan.field-0 c.loop-outcome.plans.items _ c.loop-outcome-test.true (sym c.outcome-item.is ∙ w.in-Ok.is)
          w.in_ok-plan.ensures (ap (λ (plans : Vec PlanView Global). plans.items) w.plans-is ∙ w.in_ok-push.ensures.items) c.loop-outcome.invariant
      | in_default w ↦
          subst (ArePlans v.files (take (c.loop-outcome.outcome-index + 1) v.release.launches))
          (sym (ap (λ (plans : Vec PlanView Global). plans.items) w.plans-is))
          (none-added v.files v.release.launches rs are c.loop-outcome.outcome-index c.outcome-item.result c.loop-outcome.plans.items c.loop-outcome-test.true
          (λ a is. w.in_default.not-Ok a (c.outcome-item.is ∙ is)) c.loop-outcome.invariant)
    ]

pub returns : goal.returns
returns c =
    let v = c.args.accepted.now in
    let rs : List (Result AcceptedLaunch RefusedLaunch) = c.outcomes-outcome-items.result.now in
    let are : AreOutcomes v.files v.release.launches rs
    = subst (AreOutcomes v.files v.release.launches) (sym c.outcomes-outcome-items.ensures.value) c.outcomes-outcome-items.ensures.own.2 in
    all-plans-added v.files v.release.launches rs are c.loop-outcome.outcome-index c.loop-outcome.plans.items
    (omega (arith, c.loop-outcome-test.false)) c.loop-outcome.invariant
