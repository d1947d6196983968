use Rattle.sha2.specs.Sha256.{add32}
use Rattle.sha_lanes.proofs.LaneByLane.{both}
use Rattle.rim_sha256.proofs.vectors.temp2.Goals as goal

pub returns : goal.returns
returns g c = both add32 _ _ _ _ c.big_sigma0.ensures c.maj.ensures
