use Rattle.std.proofs.Common.{◌≡◌, ◌<◌, ℕ, slice_index_or}
use Rattle.rim_chain.specs.Chains.{ChainView}
use Rattle.rim_chain.proofs.under_way.common_algo.Given as goal

abbrev pub invariant-loop-i : goal.invariant-loop-i
invariant-loop-i l = (k : ℕ) (d : ChainView) → k < l.i → (slice_index_or l.chains k d).algo ≡ l.algo
