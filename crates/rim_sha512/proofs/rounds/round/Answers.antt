use Rattle.std.proofs.Common.{◌≡◌, ℕ, slice_index, refl, arith}
use Rattle.sha2.specs.Sha512.{add64}
use Rattle.rim_sha512.proofs.rounds.round.Goals as goal

add_sum : (x k w sum : ℕ) → sum ≡ add64 k w → add64 x sum ≡ add64 (add64 x k) w
add_sum x k w sum e = rw e (omega arith)

pub returns : goal.returns
returns c k w e =
    let x = add64 (add64 (slice_index c.args.v 7) c.big_sigma1.result) c.ch.result in
    rw (add_sum x k w c.args.sum e) (rw (c.big_sigma1.ensures, c.ch.ensures, c.big_sigma0.ensures, c.maj.ensures) refl)
