-- tools/checks/widths.py makes this text from that for SHA-256.
-- Rounds over known blocks.
use Rattle.std.proofs.Common.{◌≡◌, ℕ, ◌+◌, ◌<◌, List, replicate, slice_index, refl, arith}
use Rattle.sha2.specs.Sha512.{add64, big_sigma1, ch, first_words, round, rounds, round_constants, schedule, temp1}
use Rattle.sha2.proofs.Schedule512.{length-schedule, rounds_next}
use Rattle.sha_lanes.specs.Sums.{AreSums512}
use Rattle.sha_lanes.specs.inside.Pairs.{AreSumsBelow512}
use Rattle.sha_lanes.proofs.Sums

add_sum : (x k w sum : ℕ) → sum ≡ add64 k w → add64 (add64 x sum) 0 ≡ add64 (add64 x k) w
add_sum x k w sum e = rw e (omega arith)

-- a round by the sum of its constant and its word
pub round_known : (v : List ℕ) (k w sum : ℕ) → sum ≡ add64 k w → round v sum 0 ≡ round v k w
round_known v k w sum e =
    let before = add64 (add64 (slice_index v 7) (big_sigma1 (slice_index v 4))) (ch (slice_index v 4) (slice_index v 5) (slice_index v 6)) in
    let same : temp1 v sum 0 ≡ temp1 v k w = add_sum before k w sum e in
    rw same refl

pub sum_at : (sums b : List ℕ) (t : ℕ) → AreSums512 sums b → t < 80 → slice_index sums t ≡ add64 (slice_index round_constants t) (slice_index (schedule b 64) t)
sum_at sums b = Sums.sum_at 80 add64 round_constants (schedule b 64) refl (length-schedule b 64) sums

pub sums_all : (sums b : List ℕ) → AreSumsBelow512 sums b 80 → AreSums512 sums b
sums_all sums b = Sums.sums_all 80 add64 round_constants (schedule b 64) refl (length-schedule b 64) sums

-- one round more over a known block
pub rounds_known : (b h v next : List ℕ) (t : ℕ) → v ≡ rounds h (schedule b 64) t
    → next ≡ round v (slice_index round_constants t) (slice_index (schedule b 64) t) → next ≡ rounds h (schedule b 64) (t + 1)
rounds_known b h v next t ev en = rw en (rw (rounds_next h (schedule b 64) t, ev) refl)

-- the words of a block of zeros are zero
pub zeros_sums : AreSums512 round_constants (replicate 128 0)
unfolding first_words schedule
zeros_sums = refl
