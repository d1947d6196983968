use Rattle.rmm_model.proofs.GranulesInARow.{granules-map, repeats-granules}
use Rattle.rmm_model.proofs.laws.granules_are_side_by_side.Goals as goal

pub returns-clause-places : goal.returns-clause-places
returns-clause-places c = granules-map

pub returns-clause-apart : goal.returns-clause-apart
returns-clause-apart c = repeats-granules
