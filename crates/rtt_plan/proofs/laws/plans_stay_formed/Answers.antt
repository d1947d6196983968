use Rattle.rtt_plan.proofs.PlansStayFormed.{planned-data, planned-nothing, planned-region}
use Rattle.rtt_plan.proofs.laws.plans_stay_formed.Goals as goal

pub returns-clause-nothing : goal.returns-clause-nothing
returns-clause-nothing c = planned-nothing

pub returns-clause-region : goal.returns-clause-region
returns-clause-region c = planned-region

pub returns-clause-data : goal.returns-clause-data
returns-clause-data c = planned-data
