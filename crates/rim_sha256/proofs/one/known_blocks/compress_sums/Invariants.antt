use Rattle.std.proofs.Common.{◌≡◌, ℕ, List, ◌*◌}
use Rattle.sha2.specs.Sha256.{rounds, schedule}
use Rattle.sha_lanes.specs.Sums.{AreSums256}
use Rattle.rim_sha256.proofs.one.known_blocks.compress_sums.Given as goal

abbrev pub invariant-turns : goal.invariant-turns
invariant-turns l = (b : List ℕ) → AreSums256 l.sums b → l.v ≡ rounds l.state (schedule b 48) (8 * l.turn)
