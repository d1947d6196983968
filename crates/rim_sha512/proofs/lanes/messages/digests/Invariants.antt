-- tools/checks/widths.py makes this text from that for SHA-256.
use Rattle.std.proofs.Common.{◌≡◌, ℕ, ◌<◌, [], length, slice_index_or}
use Rattle.sha2.specs.Sha512.{digest_bytes}
use Rattle.sha_lanes.specs.inside.Lanes.{lane}
use Rattle.rim_sha512.proofs.lanes.messages.digests.Given as goal

abbrev pub invariant-lanes : goal.invariant-lanes
invariant-lanes g l = (length l.out ≡ g.row.N) × ((k : ℕ) → k < l.j → slice_index_or l.out k [] ≡ digest_bytes (lane k l.hashes) 8)
