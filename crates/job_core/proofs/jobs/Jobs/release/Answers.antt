use Rattle.std.proofs.Common.{◌≤◌, arith, ◌∙◌}
use Rattle.job_core.specs.Jobs.{held_count}
use Rattle.job_core.proofs.NotesOfWorkers.{released_none, released_one}
use Rattle.job_core.proofs.jobs.Jobs.release.Goals as goal

pub returns-in-None : goal.returns-in-None
returns-in-None c = released_none c.args.self.now c.args.worker c.in-None.ensures.count

pub returns-in-Some : goal.returns-in-Some
returns-in-Some c =
    let one : held_count c.args.self.now c.args.worker ≤ 1 = omega (arith, c.in-Some.ensures.count) in
    c.write.ensures ∙ released_one c.args.self.now c.args.worker c.in-Some.job c.in-Some.ensures.held one
