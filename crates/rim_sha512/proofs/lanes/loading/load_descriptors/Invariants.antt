-- tools/checks/widths.py makes this text from that for SHA-256.
use Rattle.std.proofs.Common.{◌≡◌, ℕ, ◌*◌, ◌<◌, [], length, slice_index, slice_index_or, take, drop}
use Rattle.sha2.specs.Sha512.{word_at}
use Rattle.sha_lanes.specs.inside.Lanes.{window}
use Rattle.rim_sha512.proofs.lanes.loading.load_descriptors.Given as goal

abbrev pub invariant-words : goal.invariant-words
invariant-words g l = (length l.w ≡ 16)
    × ((j k : ℕ) → j < g.row.N → k < l.i → slice_index (window j l.w) k ≡ word_at (take 128 (drop l.at (slice_index_or l.descriptors j []))) (8 * k))
