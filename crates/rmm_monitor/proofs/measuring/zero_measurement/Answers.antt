use Rattle.std.proofs.Common.{refl}
use Rattle.rim_desc.specs.Page.{zeros}
use Rattle.rmm_monitor.proofs.measuring.zero_measurement.Goals as goal

pub returns : goal.returns
unfolding zeros
returns c = refl
