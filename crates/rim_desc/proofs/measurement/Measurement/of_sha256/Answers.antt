use Rattle.rim_desc.specs.Page.{zeros}
use Rattle.rim_desc.proofs.measurement.Measurement.of_sha256.Goals as goal

pub returns : goal.returns
unfolding zeros
returns c = rw (c.copy_from_slice.ensures.after)
