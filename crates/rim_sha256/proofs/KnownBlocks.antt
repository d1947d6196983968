-- Rounds over known blocks.
use Rattle.std.proofs.Common.{◌≡◌, ℕ, ◌+◌, ◌<◌, List, replicate, slice_index, refl, arith}
use Rattle.sha2.specs.Sha256.{add32, big_sigma1, ch, first_words, round, rounds, round_constants, schedule, temp1}
use Rattle.sha2.proofs.Schedule256.{length-schedule, rounds_next}
use Rattle.sha_lanes.specs.Sums.{AreSums256}
use Rattle.sha_lanes.specs.inside.Pairs.{AreSumsBelow256}
use Rattle.sha_lanes.proofs.Sums

add_sum : (x k w sum : ℕ) → sum ≡ add32 k w → add32 (add32 x sum) 0 ≡ add32 (add32 x k) w
add_sum x k w sum e = rw e (omega arith)

-- a round by the sum of its constant and its word
pub round_known : (v : List ℕ) (k w sum : ℕ) → sum ≡ add32 k w → round v sum 0 ≡ round v k w
round_known v k w sum e =
    let before = add32 (add32 (slice_index v 7) (big_sigma1 (slice_index v 4))) (ch (slice_index v 4) (slice_index v 5) (slice_index v 6)) in
    let same : temp1 v sum 0 ≡ temp1 v k w = add_sum before k w sum e in
    rw same refl

pub sum_at : (sums b : List ℕ) (t : ℕ) → AreSums256 sums b → t < 64 → slice_index sums t ≡ add32 (slice_index round_constants t) (slice_index (schedule b 48) t)
sum_at sums b = Sums.sum_at 64 add32 round_constants (schedule b 48) refl (length-schedule b 48) sums

pub sums_all : (sums b : List ℕ) → AreSumsBelow256 sums b 64 → AreSums256 sums b
sums_all sums b = Sums.sums_all 64 add32 round_constants (schedule b 48) refl (length-schedule b 48) sums

-- one round more over a known block
pub rounds_known : (b h v next : List ℕ) (t : ℕ) → v ≡ rounds h (schedule b 48) t
    → next ≡ round v (slice_index round_constants t) (slice_index (schedule b 48) t) → next ≡ rounds h (schedule b 48) (t + 1)
rounds_known b h v next t ev en = rw en (rw (rounds_next h (schedule b 48) t, ev) refl)

-- the words of a block of zeros are zero
pub zeros_sums : AreSums256 round_constants (replicate 64 0)
unfolding first_words schedule
zeros_sums = refl
