-- tools/checks/widths.py makes this text from that for SHA-256.
use Rattle.std.proofs.Common.{◌≡◌, ℕ, ◌*◌, ◌<◌, length, slice_index}
use Rattle.sha2.specs.Sha512.{word_at}
use Rattle.sha_lanes.specs.inside.Lanes.{window}
use Rattle.rim_sha512.proofs.lanes.loading.load_same.Given as goal

abbrev pub invariant-words : goal.invariant-words
invariant-words g l = (length l.w ≡ 16)
    × ((j k : ℕ) → j < g.row.N → k < l.i → slice_index (window j l.w) k ≡ word_at l.block (8 * k))
