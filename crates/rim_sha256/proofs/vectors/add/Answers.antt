use Rattle.sha2.specs.Sha256.{add32}
use Rattle.sha_lanes.proofs.LaneByLane.{both, itself}
use Rattle.rim_sha256.proofs.vectors.add.Goals as goal

pub returns : goal.returns
returns g c = both add32 _ _ _ _ (itself c.args.x c.fits-x.0) (itself c.args.y c.fits-y.0)
