use Rattle.rmm_model.proofs.EndsOfWalks.{EndsAt, walk-ends}
use Rattle.rmm_model.proofs.laws.walk_is_of_a_table.Goals as goal

pub returns : goal.returns
unfolding EndsAt
returns c start x ts = walk-ends start ts x
