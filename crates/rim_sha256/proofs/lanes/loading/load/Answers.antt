use Rattle.std.proofs.Common.{rules, ℕ, ◌*◌, take, drop, ◌∙◌, arith}
use Rattle.sha2.specs.Sha256.{word_at}
use Rattle.sha2.proofs.Schedule256.{IsWindow_first}
use Rattle.sha_lanes.specs.inside.Lanes.{message, window}
use Rattle.sha_lanes.proofs.LaneByLane.{window_length, window_next}
use Rattle.rim_sha256.proofs.lanes.loading.load.Goals as goal

pub words-preserved : goal.words-preserved
words-preserved g c = (
  search rules,
  window_next (λ (j k : ℕ). word_at (take 64 (drop c.args.at (message c.args.messages.now j))) (4 * k)) c.words.w c.words.i c.words_of.result
      (omega (arith, c.words.invariant.0)) c.words_of.ensures c.words.invariant.1,
)

pub returns : goal.returns
returns g c j low =
    IsWindow_first _ (window j c.words.w) (window_length c.words.w j ∙ c.words.invariant.0) (λ k lt. c.words.invariant.1 j k low (omega arith))
