-- tools/checks/widths.py makes this text from that for SHA-256.
use Rattle.sha2.specs.Sha512.{add64}
use Rattle.sha_lanes.proofs.LaneByLane.{both}
use Rattle.rim_sha512.proofs.vectors.temp2.Goals as goal

pub returns : goal.returns
returns g c = both add64 _ _ _ _ c.big_sigma0.ensures c.maj.ensures
