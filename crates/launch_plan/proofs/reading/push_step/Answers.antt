use Rattle.launch_plan.proofs.ListedCanBeRead.{least-low}
use Rattle.launch_plan.proofs.reading.push_step.Goals as goal

pub push_region-requires-clause-low : goal.push_region-requires-clause-low
push_region-requires-clause-low c = rw (c.least_level.ensures, c.config.ensures.value) (least-low c.args.launch.now.config c.args.launch.now.config.level)
