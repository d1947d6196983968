use Rattle.std.proofs.Common.{◌≡◌, ◌∙◌, List, Some, ap, subst, sym}
use Rattle.std.specs.List.{slice_get}
use Rattle.launch_plan.specs.Links.{PlanView, keys_of}
use Rattle.rim_chain.specs.SharedPrefixes.{AreShared}
use Rattle.rim_chain.proofs.KnownPrefixes.{own-shared_prefix}
use Rattle.job_tasks.specs.Tasks.{whole_table}
use Rattle.job_tasks.proofs.RowsOfOwnPages.{run_row, whole_row}
use Rattle.job_tasks.proofs.filling.filled_task.Goals as goal

pub going_on-requires : goal.going_on-requires
going_on-requires g c =
    let p = c.args.plan.now in
    let keys = keys_of p.links in
    let digests = c.args.row.digests in
    let whole = whole_table g.L.Run.pages in
    let shared = subst (λ (plans : List PlanView). AreShared whole plans c.args.prefixes.now) (sym c.requires.plans) c.requires.prefixes in
    let known = c.prefix-shared_prefix.ensures whole p shared c.requires.plan in
    let own = run_row c.args.table.now c.pages-pages.ensures.table g.L.Run.pages keys digests c.requires.pages c.requires.row in
    rw c.new-job.ensures (own-shared_prefix whole p digests c.prefix-shared_prefix.result (whole_row g.L.Run.pages keys digests own) known)

pub new-requires : goal.new-requires
new-requires g c =
    let p = c.args.plan.now in
    let plan : slice_get g.L.Run.plans c.args.number ≡ Some p =
    ap (λ (plans : List PlanView). slice_get plans c.args.number) (sym c.requires.plans) ∙ c.requires.plan in
    let own = run_row c.args.table.now c.pages-pages.ensures.table g.L.Run.pages (keys_of p.links) c.args.row.digests c.requires.pages c.requires.row in
    rw (c.going_on.ensures, c.new-job.ensures) (plan, own, c.requires.roomy)
