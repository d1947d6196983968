use Rattle.std.proofs.Common.{◌≡◌, ◌∙◌, false, sym, subst}
use Rattle.job_core.specs.Jobs.{CoreState, is_out}
use Rattle.job_core.specs.inside.Needs.{groups_of, needs_of}
use Rattle.job_core.specs.inside.Notes.{Moves}
use Rattle.job_core.proofs.LineOfReady.{launches_stay, passed_write}
use Rattle.job_core.proofs.NotesOfWorkers.{moved_from, notes_write}
use Rattle.job_core.proofs.WaitsAsJobsChange.{waits_write}
use Rattle.job_core.proofs.jobs.Jobs.write.Goals as goal

pub invariant_of-self : goal.invariant_of-self
invariant_of-self c =
    let i = c.self.inside in
    let s : CoreState = record { retired = i.retired.items; pages = i.pages.items; launches = i.launches.items; needs = needs_of i.needs } in
    let known : is_out s c.args.worker ≡ false = subst (λ (u : CoreState). is_out u c.args.worker ≡ false) (sym c.self.view_is) c.requires.known in
    let moves : Moves s c.args.worker c.args.job c.args.state c.args.held = subst (λ (u : CoreState). Moves u c.args.worker c.args.job c.args.state c.args.held) (sym c.self.view_is) c.requires.moves in
    let notes = notes_write i.holding.items s c.args.worker c.args.job c.args.state c.args.held c.self.invariant.0 known moves in
    let waits = waits_write s c.args.worker c.args.job c.args.state c.args.held (groups_of i.needs) i.cursors.items i.left.items moves c.requires.open c.self.invariant.1 in
    let old = moved_from s c.args.worker c.args.job c.args.state c.args.held moves in
    let passed = passed_write s c.args.job old.0 c.args.state i.ready.items i.ready_from old.1 c.self.invariant.4 in
    rw (c.set_job.ensures.pages, c.set_job.ensures.launches, c.passed_over.ensures) (notes, waits, c.self.invariant.2, c.self.invariant.3, passed, c.self.invariant.5 ∙ sym (launches_stay s c.args.job c.args.state))
