use Rattle.sha2.specs.Sha256.{add32}
use Rattle.sha_lanes.proofs.LaneByLane.{both, itself}
use Rattle.rim_sha256.proofs.vectors.next.Goals as goal

pub returns : goal.returns
returns g c =
    let w7 = itself c.args.w7 c.fits-w7.0 in
    let w16 = itself c.args.w16 c.fits-w16.0 in
    both add32 _ _ _ _ (both add32 _ _ _ _ (both add32 _ _ _ _ c.small_sigma1.ensures w7) c.small_sigma0.ensures) w16
