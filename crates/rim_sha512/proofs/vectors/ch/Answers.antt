-- tools/checks/widths.py makes this text from that for SHA-256.
use Rattle.std.proofs.Common.{bit_and, bit_xor}
use Rattle.std.specs.Int.{w64, bit_not}
use Rattle.sha_lanes.proofs.LaneByLane.{both, itself, one}
use Rattle.rim_sha512.proofs.vectors.ch.Goals as goal

pub returns : goal.returns
returns g c =
    let x = itself c.args.x c.fits-x.0 in
    let y = itself c.args.y c.fits-y.0 in
    let z = itself c.args.z c.fits-z.0 in
    both bit_xor _ _ _ _ (both bit_and _ _ _ _ x y) (both bit_and _ _ _ _ (one (bit_not w64) _ _ x) z)
