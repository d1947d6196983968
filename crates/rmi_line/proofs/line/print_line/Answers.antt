use Rattle.std.proofs.Common.{rules}
use Rattle.rmi_line.specs.Line.{line_of}
use Rattle.rmi_line.proofs.line.print_line.Goals as goal

pub returns-in-Activate : goal.returns-in-Activate
unfolding line_of
returns-in-Activate c = search rules
