use Rattle.std.proofs.Common.{◌≡◌, ◌∙◌, false, length, None, Some, refl, sym, ap, subst, arith}
use Rattle.std.proofs.lemmas.List.{take_at}
use Rattle.job_core.specs.declared.job.JobState.TheVariants.{Held, Done}
use Rattle.job_core.specs.Jobs.{CoreState, is_out, state_of, with_launch}
use Rattle.job_core.specs.inside.Needs.{groups_of, needs_of}
use Rattle.job_core.specs.inside.Reaches.{Waits}
use Rattle.job_core.specs.inside.Lines.{passed_over}
use Rattle.job_core.proofs.LineOfReady.{done_passes, launches_stay, passed_grows, passed_write}
use Rattle.job_core.proofs.NotesOfWorkers.{notes_write}
use Rattle.job_core.proofs.jobs.Jobs.finish.Goals as goal

pub invariant_of-self : goal.invariant_of-self
invariant_of-self c =
    let i = c.self.inside in
    let s : CoreState = record { retired = i.retired.items; pages = i.pages.items; launches = i.launches.items; needs = needs_of i.needs } in
    let known : is_out s c.args.worker ≡ false = subst (λ (u : CoreState). is_out u c.args.worker ≡ false) (sym c.self.view_is) c.requires.known in
    let held = subst (λ (u : CoreState). state_of u c.args.job ≡ Some (Held c.args.worker)) (sym c.self.view_is) c.requires.held in
    let notes = notes_write i.holding.items s c.args.worker c.args.job Done None c.self.invariant.0 known (held, λ v. refl) in
    let cursors : length c.note_done.new.cursors ≡ i.cursors.len = omega (arith, c.note_done.auto.cursors, c.deref_mut.ensures.len) in
    let left : length c.note_done.new.left ≡ i.left.len = omega (arith, c.note_done.auto.left, c.deref_mut-2.ensures.len) in
    let waits : Waits c.set_job.new.pages.items (groups_of i.needs) c.note_done.new.cursors c.note_done.new.left = rw (c.deref.ensures.value, c.groups.ensures) at c.note_done.ensures.waits in
    let passed = passed_grows (with_launch c.args.job Done i.launches.items) i.ready.items c.note_done.new.ready.items c.note_done.ensures.grows.0 (passed_over i.ready_from c.args.job Done) c.note_done.ensures.grows.1 (passed_write s c.args.job (Held c.args.worker) Done i.ready.items i.ready_from held c.self.invariant.4) in
    let same : length c.note_done.new.left ≡ length (with_launch c.args.job Done i.launches.items) = c.note_done.auto.left ∙ (ap length c.deref_mut-2.ensures.value ∙ (c.self.invariant.5 ∙ sym (launches_stay s c.args.job Done))) in
    rw (take_at c.note_done.new.cursors _ i.cursors.len cursors, take_at c.note_done.new.left _ i.left.len left) (rw (c.set_job.ensures.pages, c.set_job.ensures.launches) notes, waits, c.self.invariant.2, c.note_done.ensures.line, rw (c.set_job.ensures.launches, ← done_passes i.ready_from c.args.job) passed, rw c.set_job.ensures.launches same)
