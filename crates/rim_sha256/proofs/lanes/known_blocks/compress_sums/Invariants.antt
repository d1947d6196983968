use Rattle.std.proofs.Common.{◌≡◌, ℕ, List, ◌*◌, ◌<◌}
use Rattle.sha2.specs.Sha256.{rounds, schedule}
use Rattle.sha_lanes.specs.Sums.{AreSums256}
use Rattle.sha_lanes.specs.inside.Lanes.{lane}
use Rattle.rim_sha256.proofs.lanes.known_blocks.compress_sums.Given as goal

abbrev pub invariant-turns : goal.invariant-turns
invariant-turns g l = (j : ℕ) (b : List ℕ) → j < g.row.N → AreSums256 l.sums b → lane j l.v ≡ rounds (lane j l.state) (schedule b 48) (8 * l.turn)
