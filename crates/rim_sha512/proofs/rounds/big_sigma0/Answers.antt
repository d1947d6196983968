use Rattle.std.proofs.Common.{ℕ, bit_xor, ap, arith}
use Rattle.std.specs.Int.{w64, rotate_right}
use Rattle.sha_lanes.proofs.Rotations.{rotated_two}
use Rattle.rim_sha512.proofs.rounds.big_sigma0.Goals as goal

pub returns : goal.returns
returns c = rw (c.rotate_right-3.ensures, c.rotate_right-2.ensures, c.rotate_right.ensures)
    (ap (λ (y : ℕ). bit_xor y (rotate_right w64 c.args.x 39)) (rotated_two 64 c.args.x 28 6 (omega arith) (omega arith)))
