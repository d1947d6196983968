-- Chains of launches, each in its own place.
use Rattle.std.proofs.Common.{◌≡◌, ◌∙◌, ℕ, ◌<◌, ◌≤◌, List, length, Option, Some, None, IfSome, slice_index_or, subst, sym, ap, arith}
use Rattle.rim_chain.specs.Chains.{ChainView, HaveGoneOn, IsNext, IsUnderWay, chains_to}
use Rattle.rim_chain.specs.Jobs.{JobView}
use Rattle.launch_plan.specs.Prefixes.{prefix_value}
use Rattle.job_tasks.specs.Beside.{AreUnderWay}

-- the chain in a place is that of the launch there
pub way-at : (jobs : List (Option JobView)) (chains : List ChainView) (k : ℕ) (d : Option JobView) (c : ChainView) (job : JobView)
    → AreUnderWay jobs chains → k < length jobs → slice_index_or jobs k d ≡ Some job → IsUnderWay job (slice_index_or chains k c)
way-at jobs chains k d c job own inside is = subst (λ (o : Option JobView). IfSome o (λ j. IsUnderWay j (slice_index_or chains k c))) is (own k d c inside)

-- a chain that has come further is the same launch's
way-on : (job : JobView) (a b : ChainView) → IsNext a b → IsUnderWay job a → IsUnderWay job b
way-on job a b next way = rw (next.1, next.2) way

if-some : (o : Option JobView) (a b : ChainView) → IsNext a b → IfSome o (λ j. IsUnderWay j a) → IfSome o (λ j. IsUnderWay j b)
if-some None a b next way = way
if-some (Some job) a b next way = way-on job a b next way

-- so are chains that have come further
pub ways-on : (jobs : List (Option JobView)) (before after : List ChainView) → length jobs ≤ length before → AreUnderWay jobs before → HaveGoneOn before after
    → AreUnderWay jobs after
ways-on jobs before after size own gone = λ k d c inside.
    if-some (slice_index_or jobs k d) (slice_index_or before k c) (slice_index_or after k c) (gone.each k c (omega (arith, inside, size))) (own k d c inside)
