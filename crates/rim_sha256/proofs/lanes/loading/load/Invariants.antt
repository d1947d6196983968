use Rattle.std.proofs.Common.{◌≡◌, ℕ, ◌*◌, ◌<◌, length, slice_index, take, drop}
use Rattle.sha2.specs.Sha256.{word_at}
use Rattle.sha_lanes.specs.inside.Lanes.{message, window}
use Rattle.rim_sha256.proofs.lanes.loading.load.Given as goal

abbrev pub invariant-words : goal.invariant-words
invariant-words g l = (length l.w ≡ 16)
    × ((j k : ℕ) → j < g.row.N → k < l.i → slice_index (window j l.w) k ≡ word_at (take 64 (drop l.at (message l.messages j))) (4 * k))
