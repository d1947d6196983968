use Rattle.std.proofs.Common.{rules}
use Rattle.rim_launch.proofs.launch.Launch.ram.Goals as goal

pub returns-clause-value : goal.returns-clause-value
returns-clause-value c = search rules
