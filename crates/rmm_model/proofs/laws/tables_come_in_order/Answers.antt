use Rattle.std.proofs.Common.{refl}
use Rattle.rmm_model.specs.Blocks.{granules, size, stretches}
use Rattle.rmm_model.specs.Space.{walk}
use Rattle.rmm_model.specs.Owners.{give_all}
use Rattle.rmm_model.specs.Run.{run}
use Rattle.rmm_model.proofs.laws.tables_come_in_order.Goals as goal

pub returns : goal.returns
unfolding run granules size stretches walk give_all
returns c = refl
