use Rattle.std.proofs.Common.{◌≡◌, Ok, subst}
use Rattle.job_core.specs.declared.job.JobId.{JobId}
use Rattle.job_core.specs.declared.job.Event.TheVariants.{Put}
use Rattle.job_core.specs.Step.{core_step}
use Rattle.job_core.proofs.CoreCounts.{core_next, marks_put_page, marks_put_launch}
use Rattle.job_core.proofs.machine.Core.put.Goals as goal

pub overflow_sub-self : goal.overflow_sub-self
overflow_sub-self c =
    let i = c.self.inside in
    let is = subst (λ (job : JobId). core_step i.jobs (Put c.args.worker job) ≡ Ok c.put.new.self) c.in-Page.is c.in_default.ensures.step in
    (marks_put_page i.pages_from i.pages_left i.launches_left i.jobs c.put.new.self c.args.worker c.in-Page.field-0 is c.self.invariant.1).0

pub invariant_of-self-in-Page : goal.invariant_of-self-in-Page
invariant_of-self-in-Page c =
    let i = c.self.inside in
    let is = subst (λ (job : JobId). core_step i.jobs (Put c.args.worker job) ≡ Ok c.put.new.self) c.in-Page.is c.in_default.ensures.step in
    (core_next i.jobs c.put.new.self (Put c.args.worker c.args.job) c.in_default.ensures.step c.self.invariant.0, (marks_put_page i.pages_from i.pages_left i.launches_left i.jobs c.put.new.self c.args.worker c.in-Page.field-0 is c.self.invariant.1).1)

pub overflow_sub-self-in-Launch : goal.overflow_sub-self-in-Launch
overflow_sub-self-in-Launch c =
    let i = c.self.inside in
    let is = subst (λ (job : JobId). core_step i.jobs (Put c.args.worker job) ≡ Ok c.put.new.self) c.in-Launch.is c.in_default.ensures.step in
    (marks_put_launch i.pages_from i.pages_left i.launches_left i.jobs c.put.new.self c.args.worker c.in-Launch.field-0 is c.self.invariant.1).0

pub invariant_of-self-in-Launch : goal.invariant_of-self-in-Launch
invariant_of-self-in-Launch c =
    let i = c.self.inside in
    let is = subst (λ (job : JobId). core_step i.jobs (Put c.args.worker job) ≡ Ok c.put.new.self) c.in-Launch.is c.in_default.ensures.step in
    (core_next i.jobs c.put.new.self (Put c.args.worker c.args.job) c.in_default.ensures.step c.self.invariant.0, (marks_put_launch i.pages_from i.pages_left i.launches_left i.jobs c.put.new.self c.args.worker c.in-Launch.field-0 is c.self.invariant.1).1)
