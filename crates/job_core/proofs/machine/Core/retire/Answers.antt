use Rattle.job_core.specs.declared.job.Event.TheVariants.{Retire}
use Rattle.job_core.proofs.CoreCounts.{core_next, held_is_job, marks_retire}
use Rattle.job_core.proofs.machine.Core.retire.Goals as goal

pub invariant_of-self-2 : goal.invariant_of-self-2
invariant_of-self-2 c =
    let i = c.self.inside in
    let held = held_is_job i.jobs c.args.worker c.held-held.result c.held-held.ensures.held c.held-held.ensures.count in
    let marks = marks_retire i.pages_from i.pages_left i.launches_left i.jobs c.retire.new.self c.args.worker c.held-held.result c.in_default.ensures.step held c.self.invariant.1 in
    rw (c.lowered_page-self-inside.ensures) (core_next i.jobs c.retire.new.self (Retire c.args.worker) c.in_default.ensures.step c.self.invariant.0, marks)
