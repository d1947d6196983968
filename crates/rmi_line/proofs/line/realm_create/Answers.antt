use Rattle.std.proofs.Common.{rules}
use Rattle.rmi_line.proofs.LineWordByWord.{grown-two, line_of-grown}
use Rattle.rmi_line.proofs.line.realm_create.Goals as goal

pub returns : goal.returns
returns c = rw (line_of-grown, grown-two) (search rules)
