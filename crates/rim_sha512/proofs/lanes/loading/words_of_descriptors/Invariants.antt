-- tools/checks/widths.py makes this text from that for SHA-256.
use Rattle.std.proofs.Common.{◌≡◌, ℕ, ◌*◌, ◌<◌, [], length, slice_index, slice_index_or, take, drop}
use Rattle.sha2.specs.Sha512.{word_at}
use Rattle.rim_sha512.proofs.lanes.loading.words_of_descriptors.Given as goal

abbrev pub invariant-lanes : goal.invariant-lanes
invariant-lanes g l = (length l.words ≡ g.row.N)
    × ((k : ℕ) → k < l.j → slice_index l.words k ≡ word_at (take 128 (drop l.at (slice_index_or l.descriptors k []))) (8 * l.i))
