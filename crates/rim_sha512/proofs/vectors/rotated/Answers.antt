-- tools/checks/widths.py makes this text from that for SHA-256.
use Rattle.std.proofs.Common.{ℕ, ◌*◌, ◌/◌, ◌%◌, ◌^◌, bit_or, ◌∙◌, ◌-◌, arith}
use Rattle.std.proofs.lemmas.Simd.{shifts_fit_splat}
use Rattle.std.specs.Int.{w64}
use Rattle.sha_lanes.proofs.LaneByLane.{both, itself, rotation, splat}
use Rattle.rim_sha512.proofs.vectors.rotated.Goals as goal

pub returns : goal.returns
returns g c =
    let x = itself c.args.x c.fits-x.0 in
    let both = both bit_or _ _ _ _ (both (λ (a b : ℕ). a / 2 ^ b) _ _ _ _ x (splat c.args.k))
    (both (λ (a b : ℕ). a * 2 ^ b % 2 ^ 64) _ _ _ _ x (splat (64 - c.args.k))) in
    (both.0, λ j h. both.1 j h ∙ rotation w64 _ _ c.requires.0 c.requires.1)

pub overflow_shr-result : goal.overflow_shr-result
overflow_shr-result g c = shifts_fit_splat 64 c.args.x _ c.args.k c.requires.1

pub overflow_shl-result : goal.overflow_shl-result
overflow_shl-result g c = shifts_fit_splat 64 c.args.x _ (64 - c.args.k) (omega (arith, c.requires.0, c.requires.1))
