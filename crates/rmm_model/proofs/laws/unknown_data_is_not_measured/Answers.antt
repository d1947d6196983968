use Rattle.std.proofs.Common.{refl}
use Rattle.rmm_model.specs.Blocks.{granules, size, stretches}
use Rattle.rmm_model.specs.Space.{walk}
use Rattle.rmm_model.specs.Owners.{give_all}
use Rattle.rmm_model.specs.Run.{accepted, run, shown}
use Rattle.rmm_model.proofs.laws.unknown_data_is_not_measured.Goals as goal

pub returns-clause-taken : goal.returns-clause-taken
unfolding accepted run granules size stretches walk give_all
returns-clause-taken c = refl

pub returns-clause-measured : goal.returns-clause-measured
unfolding shown run granules size stretches walk give_all
returns-clause-measured c = refl

pub returns-clause-owners : goal.returns-clause-owners
unfolding run granules size stretches walk give_all
returns-clause-owners c = refl

pub returns-clause-early : goal.returns-clause-early
returns-clause-early c = refl
