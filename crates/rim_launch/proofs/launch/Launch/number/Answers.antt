use Rattle.std.proofs.Common.{rules}
use Rattle.rim_launch.proofs.launch.Launch.number.Goals as goal

pub returns : goal.returns
returns c = search rules
