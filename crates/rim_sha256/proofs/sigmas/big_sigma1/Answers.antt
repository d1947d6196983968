use Rattle.std.proofs.Common.{ℕ, bit_xor, ap, slice_index, ◌∙◌, arith}
use Rattle.std.specs.Int.{w32, rotate_right}
use Rattle.sha_lanes.proofs.Rotations.{rotated_three}
use Rattle.sha_lanes.proofs.LaneByLane.{alike, both, itself, lane_below}
use Rattle.rim_sha256.proofs.sigmas.big_sigma1.Goals as goal

pub returns : goal.returns
returns g c =
    let x = itself c.args.x c.fits-x.0 in
    let once = both bit_xor _ _ _ _ x c.rotated.ensures in
    let inner = alike _ _ _ c.rotated-2.ensures (λ j h. ap (λ (y : ℕ). rotate_right w32 y 5) (once.1 j h)) in
    let twice = both bit_xor _ _ _ _ x inner in
    alike _ _ _ c.rotated-3.ensures (λ j h.
    ap (λ (y : ℕ). rotate_right w32 y 6) (twice.1 j h)
    ∙ rotated_three 32 (slice_index c.args.x j) 6 5 14 (omega arith) (lane_below _ c.args.x c.fits-x.0 c.fits-x.1 j h))
