use Rattle.std.proofs.Common.{rules}
use Rattle.rim_desc.proofs.number.digits.Goals as goal

pub returns : goal.returns
returns c = search rules
