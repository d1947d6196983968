use Rattle.std.proofs.Common.{◌≡◌, ℕ, ◌<◌}
use Rattle.sha2.specs.Sha256.{hash_after, initial_hash_256}
use Rattle.sha_lanes.specs.inside.Lanes.{lane, message}
use Rattle.rim_sha256.proofs.lanes.messages.final_hashes.Given as goal

abbrev pub invariant-each : goal.invariant-each
invariant-each g l = (j : ℕ) → j < g.row.N → lane j l.state ≡ hash_after initial_hash_256 (message l.messages j) l.i
