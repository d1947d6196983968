use Rattle.rtt_plan.proofs.AcceptedCalls.{data-planned, region-planned}
use Rattle.rtt_plan.proofs.laws.what_is_planned_passed_its_checks.Goals as goal

pub returns-clause-region : goal.returns-clause-region
returns-clause-region c = region-planned

pub returns-clause-data : goal.returns-clause-data
returns-clause-data c = data-planned
