use Rattle.std.proofs.Common.{rules}
use Rattle.rmi_line.proofs.words.digits.Goals as goal

pub returns : goal.returns
returns c = search rules
