use Rattle.std.proofs.Common.{rules}
use Rattle.rim_launch.proofs.item.Bootargs.as_str.Goals as goal

pub returns : goal.returns
returns c = search rules
