use Rattle.rim_binding.proofs.EventsOfHosts.{active-run}
use Rattle.rim_binding.proofs.laws.what_is_not_bound.Goals as goal

pub returns-clause-after_activation : goal.returns-clause-after_activation
returns-clause-after_activation c = λ memory s commands active all. active-run memory commands s active all
