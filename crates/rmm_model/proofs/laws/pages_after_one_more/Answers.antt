use Rattle.rmm_model.proofs.OneMoreInSpace.{has-insert}
use Rattle.rmm_model.proofs.laws.pages_after_one_more.Goals as goal

pub returns : goal.returns
returns c s = has-insert s.assigned
