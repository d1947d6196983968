use Rattle.std.proofs.Common.{rules, ℕ, ◌*◌, take, drop, arith, ap, ◌∙◌, List}
use Rattle.sha2.specs.Sha256.{word_at}
use Rattle.sha_lanes.specs.inside.Lanes.{message}
use Rattle.sha_lanes.proofs.LaneByLane.{set_next}
use Rattle.rim_sha256.proofs.lanes.loading.words_of.Goals as goal

pub lanes-preserved : goal.lanes-preserved
lanes-preserved g c = (
  search rules,
  set_next 0 (λ (j : ℕ). word_at (take 64 (drop c.args.at (message c.args.messages.now j))) (4 * c.args.i)) c.lanes.words c.lanes.j c.block_word.result
      (omega (arith, c.lanes.invariant.0)) (c.block_word.ensures ∙ ap (λ (m : List ℕ). word_at (take 64 (drop c.args.at m)) (4 * c.args.i)) c.message.ensures)
      c.lanes.invariant.1,
)
