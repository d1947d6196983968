use Rattle.std.proofs.Common.{rules}
use Rattle.rim_desc.proofs.measurement.extend.Goals as goal

pub returns-in-Sha256 : goal.returns-in-Sha256
returns-in-Sha256 c = search rules
