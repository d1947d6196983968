use Rattle.std.proofs.Common.{rules}
use Rattle.rim_manifest.proofs.launch.NamedLaunch.name.Goals as goal

pub returns : goal.returns
returns c = search rules
