use Rattle.std.proofs.Common.{◌∙◌, ℕ, ap, subst, sym}
use Rattle.rim_chain.specs.Jobs.{JobView}
use Rattle.launch_plan.specs.Links.{keys_of}
use Rattle.rim_chain.specs.SharedPrefixes.{IsOwnPrefix}
use Rattle.rim_chain.proofs.KnownPrefixes.{row-prefix}
use Rattle.job_tasks.specs.Tasks.{IsOwnLaunch, whole_table}
use Rattle.job_tasks.proofs.RowsOfOwnPages.{whole_row}
use Rattle.job_tasks.proofs.task.LaunchTask.prefix_after.Goals as goal

pub invariant_of-result : goal.invariant_of-result
invariant_of-result g c =
    let job : JobView = c.self.inside.job in
    let own : IsOwnLaunch g.L.Run.pages g.L.Run.plans job = c.self.invariant in
    let whole = whole_table g.L.Run.pages in
    let prefix = c.prefix_after.result in
    let row = whole_row g.L.Run.pages (keys_of job.plan.links) job.row.digests own.1 in
    let is : IsOwnPrefix whole g.L.Run.plans job.number prefix =
    row-prefix whole g.L.Run.plans job.number prefix.links job.plan job.row.digests prefix.value own.0 row c.prefix_after.ensures in
    subst (λ (n : ℕ). IsOwnPrefix whole g.L.Run.plans n prefix) (sym c.number.ensures) is
