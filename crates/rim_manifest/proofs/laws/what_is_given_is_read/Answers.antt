use Rattle.rim_manifest.proofs.ReadAsGiven.{accepted_as_given}
use Rattle.rim_manifest.proofs.laws.what_is_given_is_read.Goals as goal

pub returns : goal.returns
returns c = accepted_as_given
