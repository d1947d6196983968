use Rattle.std.proofs.Common.{ℕ, List, ◌*◌}
use Rattle.sha2.specs.Sha512.{IsWindow, schedule}
use Rattle.sha_lanes.specs.inside.Pairs.{AreSumsBelow512, flat}
use Rattle.rim_sha512.proofs.schedule.first_sums.Given as goal

abbrev pub invariant-pairs : goal.invariant-pairs
invariant-pairs l = (b : List ℕ) → IsWindow (flat 0 1 l.w) (schedule b 64) 16 → AreSumsBelow512 l.sums b (2 * l.i)
