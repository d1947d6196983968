use Rattle.std.proofs.Common.{◌≡◌, ◌<◌, ℕ, length, Option, IfSome, slice_index_or}
use Rattle.rim_chain.specs.Chains.{ChainView, IsUnderWay}
use Rattle.rim_chain.specs.Jobs.{JobView}
use Rattle.job_tasks.proofs.beside.begin_each.Given as goal

abbrev pub invariant-loop-i : goal.invariant-loop-i
invariant-loop-i g l = (length l.chains ≡ length l.fn.chains)
    × ((k : ℕ) (d : Option JobView) (c : ChainView) → k < l.i
    → IfSome (slice_index_or l.tasks k d) (λ job. IsUnderWay job (slice_index_or l.chains k c)))
