use Rattle.std.proofs.Common.{◌≡◌, ℕ, false, true, Some, subst}
use Rattle.std.specs.Prelude.{vec_capacity, IfNone, IfSome}
use Rattle.std.specs.List.{slice_get}
use Rattle.job_core.specs.declared.job.JobId.TheVariants.{Launch}
use Rattle.job_core.specs.declared.job.JobState.TheVariants.{Free}
use Rattle.job_core.specs.Jobs.{CoreState, is_ready}
use Rattle.job_core.specs.inside.Needs.{groups_of, needs_of}
use Rattle.job_core.proofs.LineOfReady.{next_none, next_some}
use Rattle.job_core.proofs.jobs.Jobs.ready_launch.Goals as goal

pub returns-clause-some : goal.returns-clause-some
returns-clause-some c =
    let i = c.self.inside in
    let s : CoreState = record { retired = i.retired.items; pages = i.pages.items; launches = i.launches.items; needs = needs_of i.needs } in
    let at : c.launch_at.result ≡ slice_get i.ready.items c.free_in-from.result = rw c.deref-3.ensures.value at c.launch_at.ensures in
    let free = rw (c.deref.ensures.value, c.deref-2.ensures.value) at c.free_in-from.ensures.free in
    subst (λ (u : CoreState). IfSome c.launch_at.result (λ l. (slice_get u.launches l ≡ Some Free) × (is_ready u (Launch l) ≡ true))) c.self.view_is
    (next_some s (groups_of i.needs) i.cursors.items i.left.items i.ready.items (vec_capacity i.ready) c.free_in-from.result c.launch_at.result c.self.invariant.1 c.self.invariant.2 c.self.invariant.3 free at)

pub returns-clause-none : goal.returns-clause-none
returns-clause-none c =
    let i = c.self.inside in
    let s : CoreState = record { retired = i.retired.items; pages = i.pages.items; launches = i.launches.items; needs = needs_of i.needs } in
    let at : c.launch_at.result ≡ slice_get i.ready.items c.free_in-from.result = rw c.deref-3.ensures.value at c.launch_at.ensures in
    let passed = rw (c.deref.ensures.value, c.deref-2.ensures.value) at c.free_in-from.ensures.passed in
    subst (λ (u : CoreState). IfNone c.launch_at.result ((l : ℕ) → slice_get u.launches l ≡ Some Free → is_ready u (Launch l) ≡ false)) c.self.view_is
    (next_none s (groups_of i.needs) i.cursors.items i.left.items i.ready.items (vec_capacity i.ready) i.ready_from c.free_in-from.result c.launch_at.result c.self.invariant.1 c.self.invariant.2 c.self.invariant.3 c.self.invariant.5 c.self.invariant.4 passed at)
