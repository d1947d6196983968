use Rattle.rim_binding.proofs.BoundByMeasurement.{alike-have-one-rim}
use Rattle.rim_binding.proofs.laws.alike_launches_have_one_rim.Goals as goal

pub returns : goal.returns
returns c = alike-have-one-rim
