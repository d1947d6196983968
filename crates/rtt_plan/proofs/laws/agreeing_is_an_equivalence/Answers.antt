use Rattle.rtt_plan.proofs.PlansGoOnAlike.{agrees-refl, agrees-sym, agrees-trans}
use Rattle.rtt_plan.proofs.laws.agreeing_is_an_equivalence.Goals as goal

pub returns-clause-itself : goal.returns-clause-itself
returns-clause-itself c = agrees-refl

pub returns-clause-turned : goal.returns-clause-turned
returns-clause-turned c = agrees-sym

pub returns-clause-onward : goal.returns-clause-onward
returns-clause-onward c = agrees-trans
