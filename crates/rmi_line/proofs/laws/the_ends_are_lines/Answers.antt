use Rattle.rmi_line.proofs.EndsWordByWord.{first-one_line, last-no_command, last-one_line}
use Rattle.rmi_line.proofs.laws.the_ends_are_lines.Goals as goal

pub returns-clause-first : goal.returns-clause-first
returns-clause-first c = first-one_line

pub returns-clause-last : goal.returns-clause-last
returns-clause-last c = last-one_line

pub returns-clause-apart : goal.returns-clause-apart
returns-clause-apart c = last-no_command
