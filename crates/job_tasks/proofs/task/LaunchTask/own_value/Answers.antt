use Rattle.std.proofs.Common.{◌≡◌, ℕ, subst, sym}
use Rattle.rim_chain.specs.Jobs.{JobView}
use Rattle.job_tasks.specs.Tasks.{IsOwnValue}
use Rattle.launch_plan.specs.Links.{chain_of}
use Rattle.job_tasks.proofs.RowsOfOwnPages.{own_value}
use Rattle.job_tasks.proofs.task.LaunchTask.own_value.Goals as goal

pub invariant_of-result : goal.invariant_of-result
invariant_of-result g c =
    let own = subst (λ (j : JobView). c.args.value.bytes ≡ chain_of j.plan j.row.digests) (sym c.self.view_is) c.requires in
    let value = own_value g.L.Run.pages g.L.Run.plans c.self.inside.job c.args.value c.self.invariant own in
    subst (λ (n : ℕ). IsOwnValue g.L.Run.pages g.L.Run.plans n c.args.value) (sym c.number.ensures) value
