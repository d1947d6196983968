use Rattle.std.proofs.Common.{◌≡◌, ℕ, ◌*◌, ◌<◌, [], length, slice_index, slice_index_or, take, drop}
use Rattle.sha2.specs.Sha256.{word_at}
use Rattle.rim_sha256.proofs.lanes.loading.words_of_descriptors.Given as goal

abbrev pub invariant-lanes : goal.invariant-lanes
invariant-lanes g l = (length l.words ≡ g.row.N)
    × ((k : ℕ) → k < l.j → slice_index l.words k ≡ word_at (take 64 (drop l.at (slice_index_or l.descriptors k []))) (4 * l.i))
