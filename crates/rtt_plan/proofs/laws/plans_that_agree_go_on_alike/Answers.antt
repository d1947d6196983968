use Rattle.rtt_plan.proofs.PlansGoOnAlike.{after_data-alike, after_region-alike, plan_data-alike, plan_region-alike, walks-alike}
use Rattle.rtt_plan.proofs.laws.plans_that_agree_go_on_alike.Goals as goal

pub returns-clause-region : goal.returns-clause-region
returns-clause-region c = plan_region-alike

pub returns-clause-data : goal.returns-clause-data
returns-clause-data c = plan_data-alike

pub returns-clause-walk : goal.returns-clause-walk
returns-clause-walk c = walks-alike

pub returns-clause-after_region : goal.returns-clause-after_region
returns-clause-after_region c = after_region-alike

pub returns-clause-after_data : goal.returns-clause-after_data
returns-clause-after_data c = after_data-alike
