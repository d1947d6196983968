use Rattle.std.proofs.Common.{◌≡◌, ◌∙◌, get_or, ap, subst, rules}
use Rattle.std.specs.Prelude.{◌==◌}
use Rattle.job_core.specs.declared.job.JobId.TheVariants.{Launch}
use Rattle.job_core.specs.Jobs.{CoreState, is_ready}
use Rattle.job_core.specs.inside.Needs.{groups_of, needs_of}
use Rattle.job_core.proofs.ReadyByReaches.{ready_index}
use Rattle.job_core.proofs.jobs.Jobs.is_launch_ready.Goals as goal

pub returns : goal.returns
returns c =
    let i = c.self.inside in
    let s : CoreState = record { retired = i.retired.items; pages = i.pages.items; launches = i.launches.items; needs = needs_of i.needs } in
    let here : c.unwrap_or.result ≡ get_or i.left.items c.args.launch 0 = search rules in
    let ready = ready_index s (groups_of i.needs) i.cursors.items i.left.items c.args.launch c.self.invariant.1 c.self.invariant.2 in
    ap (λ n. n == 0) here ∙ subst (λ (u : CoreState). (get_or i.left.items c.args.launch 0 == 0) ≡ is_ready u (Launch c.args.launch)) c.self.view_is ready
