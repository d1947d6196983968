use Rattle.std.proofs.Common.{◌≡◌, ℕ, ◌<◌, [], length, slice_index_or}
use Rattle.sha2.specs.Sha256.{sha256}
use Rattle.rim_sha.proofs.one_by_one.Given as goal

abbrev pub invariant-each : goal.invariant-each
invariant-each g l = (length l.out ≡ g.row.N) × ((k : ℕ) → k < l.j → slice_index_or l.out k [] ≡ sha256 (slice_index_or l.descriptors k []))
