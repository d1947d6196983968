use Rattle.std.proofs.Common.{bit_xor}
use Rattle.sha_lanes.proofs.LaneByLane.{both}
use Rattle.rim_sha512.proofs.sigmas.big_sigma1.Goals as goal

pub returns : goal.returns
returns g c = both bit_xor _ _ _ _ (both bit_xor _ _ _ _ c.rotated.ensures c.rotated-2.ensures) c.rotated-3.ensures
