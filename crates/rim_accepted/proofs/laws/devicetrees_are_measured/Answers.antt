use Rattle.rim_accepted.proofs.DevicetreeGivenOut.{devicetrees-are-measured}
use Rattle.rim_accepted.proofs.laws.devicetrees_are_measured.Goals as goal

pub returns : goal.returns
returns c = devicetrees-are-measured
