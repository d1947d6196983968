-- tools/checks/widths.py makes this text from that for SHA-256.
use Rattle.sha2.specs.Sha512.{add64}
use Rattle.sha_lanes.proofs.LaneByLane.{both, itself}
use Rattle.rim_sha512.proofs.vectors.add.Goals as goal

pub returns : goal.returns
returns g c = both add64 _ _ _ _ (itself c.args.x c.fits-x.0) (itself c.args.y c.fits-y.0)
