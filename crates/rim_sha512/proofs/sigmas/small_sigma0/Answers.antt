use Rattle.std.proofs.Common.{ℕ, ◌/◌, ◌^◌, bit_xor, arith}
use Rattle.std.proofs.lemmas.Simd.{shifts_fit_splat}
use Rattle.sha_lanes.proofs.LaneByLane.{both, itself, splat}
use Rattle.rim_sha512.proofs.sigmas.small_sigma0.Goals as goal

pub returns : goal.returns
returns g c =
    let shifted = both (λ (a b : ℕ). a / 2 ^ b) _ _ _ _ (itself c.args.x c.fits-x.0) (splat 7) in
    both bit_xor _ _ _ _ (both bit_xor _ _ _ _ c.rotated.ensures c.rotated-2.ensures) shifted

pub overflow_shr-result : goal.overflow_shr-result
overflow_shr-result g c = shifts_fit_splat 64 c.args.x _ 7 (omega arith)
