use Rattle.std.proofs.Common.{ℕ, subst, sym}
use Rattle.job_tasks.specs.Tasks.{IsOwnValue}
use Rattle.job_tasks.proofs.RowsOfOwnPages.{own_value}
use Rattle.job_tasks.proofs.task.ChainedLaunch.into_parts.Goals as goal

pub invariant_of-result : goal.invariant_of-result
invariant_of-result g c =
    let value = own_value g.L.Run.pages g.L.Run.plans c.self.inside.rim.job c.value-value.result c.self.invariant c.value-value.ensures.own in
    subst (λ (n : ℕ). IsOwnValue g.L.Run.pages g.L.Run.plans n c.value-value.result) (sym c.number-number.ensures) value
