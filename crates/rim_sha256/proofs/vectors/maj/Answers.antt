use Rattle.std.proofs.Common.{bit_and, bit_xor, slice_index, ◌∙◌}
use Rattle.sha_lanes.proofs.ChMaj.{maj_short}
use Rattle.sha_lanes.proofs.LaneByLane.{both, itself}
use Rattle.rim_sha256.proofs.vectors.maj.Goals as goal

pub returns : goal.returns
returns g c =
    let x = itself c.args.x c.fits-x.0 in
    let y = itself c.args.y c.fits-y.0 in
    let z = itself c.args.z c.fits-z.0 in
    let short = both bit_xor _ _ _ _ y (both bit_and _ _ _ _ (both bit_xor _ _ _ _ x y) (both bit_xor _ _ _ _ y z)) in
    (short.0, λ j h. short.1 j h ∙ maj_short (slice_index c.args.x j) (slice_index c.args.y j) (slice_index c.args.z j))
