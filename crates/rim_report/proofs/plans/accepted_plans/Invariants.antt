use Rattle.std.proofs.Common.{take}
use Rattle.rim_report.specs.Plans.{ArePlans}
use Rattle.rim_report.proofs.plans.accepted_plans.Given as goal

abbrev pub invariant-loop-outcome : goal.invariant-loop-outcome
invariant-loop-outcome l = ArePlans l.accepted.files (take l.outcome-index l.accepted.release.launches) l.plans.items
