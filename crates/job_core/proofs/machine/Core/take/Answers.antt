use Rattle.job_core.proofs.CoreCounts.{taken_kept}
use Rattle.job_core.proofs.machine.Core.take.Goals as goal

pub invariant_of-self : goal.invariant_of-self
invariant_of-self c =
    let i = c.self.inside in
    taken_kept i.pages_from i.pages_left i.launches_left i.jobs c.take.new.self c.args.worker c.args.job c.take.result c.take.ensures.step c.take.ensures.same c.self.invariant
