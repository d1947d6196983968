use Rattle.rmm_model.proofs.NoGranuleTwice.{accepted-once}
use Rattle.rmm_model.proofs.laws.no_granule_is_taken_twice.Goals as goal

pub returns : goal.returns
returns c state commands = accepted-once state commands
