use Rattle.std.proofs.Common.{ℕ, List, ◌*◌}
use Rattle.sha2.specs.Sha256.{IsWindow, schedule}
use Rattle.sha_lanes.specs.inside.Pairs.{AreSumsBelow256, flat}
use Rattle.rim_sha256.proofs.one.schedule.first_sums.Given as goal

abbrev pub invariant-pairs : goal.invariant-pairs
invariant-pairs l =
    ((b : List ℕ) → IsWindow (flat 0 1 l.w) (schedule b 48) 16 → AreSumsBelow256 l.s b (2 * l.i))
    × ((b : List ℕ) → IsWindow (flat 2 3 l.w) (schedule b 48) 16 → AreSumsBelow256 l.u b (2 * l.i))
