use Rattle.std.proofs.Common.{rules}
use Rattle.rim_manifest.proofs.manifest.Release.launches.Goals as goal

pub returns : goal.returns
returns c = search rules
