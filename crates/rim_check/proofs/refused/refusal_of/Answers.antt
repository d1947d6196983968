use Rattle.std.proofs.Common.{subst}
use Rattle.std.specs.Prelude.{Result, Ok, Err}
use Rattle.rim_accepted.specs.Outcomes.{IsOutcome}
use Rattle.rim_accepted.specs.declared.accepted.AcceptedLaunch.{AcceptedLaunch}
use Rattle.rim_accepted.specs.declared.refused.RefusedLaunch.{RefusedLaunch}
use Rattle.rim_check.proofs.RefusalsInTurn.{none-on, one-on}
use Rattle.rim_check.proofs.refused.refusal_of.Goals as goal

pub returns-in-Ok : goal.returns-in-Ok
returns-in-Ok c = λ files l outcome.
    none-on files l c.in-Ok.field-0 (subst (λ (r : Result AcceptedLaunch RefusedLaunch). IsOutcome files l r) c.in-Ok.is outcome)

pub returns-in_ok-refusal_remark-in-Err : goal.returns-in_ok-refusal_remark-in-Err
returns-in_ok-refusal_remark-in-Err c = λ files l outcome.
    one-on files l c.in-Err.refused c.in_ok-refusal_remark-in-Err.field-0
    (subst (λ (r : Result AcceptedLaunch RefusedLaunch). IsOutcome files l r) c.in-Err.is outcome) c.in_ok-refusal_remark-in-Err.ensures
