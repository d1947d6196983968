-- tools/checks/widths.py makes this text from that for SHA-256.
use Rattle.std.proofs.Common.{rules, ℕ, ◌*◌, [], slice_index_or, take, drop, arith}
use Rattle.sha2.specs.Sha512.{word_at}
use Rattle.sha_lanes.proofs.LaneByLane.{set_next}
use Rattle.rim_sha512.proofs.lanes.loading.words_of_descriptors.Goals as goal

pub lanes-preserved : goal.lanes-preserved
lanes-preserved g c = (
  search rules,
  set_next 0 (λ (j : ℕ). word_at (take 128 (drop c.args.at (slice_index_or c.args.descriptors.now j []))) (8 * c.args.i)) c.lanes.words c.lanes.j
      c.block_word.result
      (omega (arith, c.lanes.invariant.0)) c.block_word.ensures c.lanes.invariant.1,
)
