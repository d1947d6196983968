use Rattle.std.proofs.Common.{ℕ, ◌/◌, ◌^◌, bit_xor, ap, slice_index, ◌∙◌, arith}
use Rattle.std.proofs.lemmas.Simd.{shifts_fit_splat}
use Rattle.std.specs.Int.{w64, rotate_right}
use Rattle.sha_lanes.proofs.Rotations.{rotated_two}
use Rattle.sha_lanes.proofs.LaneByLane.{alike, both, itself, lane_below, splat}
use Rattle.rim_sha512.proofs.sigmas.small_sigma1.Goals as goal

pub returns : goal.returns
returns g c =
    let x = itself c.args.x c.fits-x.0 in
    let once = both bit_xor _ _ _ _ x c.rotated.ensures in
    let rotated = alike _ _ _ c.rotated-2.ensures (λ j h.
    ap (λ (y : ℕ). rotate_right w64 y 19) (once.1 j h)
    ∙ rotated_two 64 (slice_index c.args.x j) 19 42 (omega arith) (lane_below _ c.args.x c.fits-x.0 c.fits-x.1 j h)) in
    let shifted = both (λ (a b : ℕ). a / 2 ^ b) _ _ _ _ x (splat 6) in
    both bit_xor _ _ _ _ rotated shifted

pub overflow_shr-result : goal.overflow_shr-result
overflow_shr-result g c = shifts_fit_splat 64 c.args.x _ 6 (omega arith)
