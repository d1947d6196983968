use Rattle.std.proofs.Common.{◌≡◌, ℕ, ◌*◌, ◌<◌, length, slice_index, take, drop}
use Rattle.sha2.specs.Sha256.{word_at}
use Rattle.sha_lanes.specs.inside.Lanes.{message}
use Rattle.rim_sha256.proofs.lanes.loading.words_of.Given as goal

abbrev pub invariant-lanes : goal.invariant-lanes
invariant-lanes g l = (length l.words ≡ g.row.N)
    × ((k : ℕ) → k < l.j → slice_index l.words k ≡ word_at (take 64 (drop l.at (message l.messages k))) (4 * l.i))
