use Rattle.job_core.specs.inside.Needs.{needs_of}
use Rattle.job_core.proofs.CoreCounts.{core_fresh, marks_fresh}
use Rattle.job_core.proofs.machine.Core.with_needs.Goals as goal

pub invariant_of-result : goal.invariant_of-result
invariant_of-result c =
    let ns = needs_of c.args.needs in
    rw (c.in_ok-jobs.ensures, c.launches-launches.ensures) (core_fresh c.args.workers c.args.pages ns c.requires.workers.0 c.requires.workers.1 c.requires.needs.within, marks_fresh c.args.workers c.args.pages ns)
