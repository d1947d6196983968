use Rattle.rim_binding.proofs.BoundByMeasurement.{parts-are-bound}
use Rattle.rim_binding.proofs.laws.parts_are_bound.Goals as goal

pub returns : goal.returns
returns c = parts-are-bound
