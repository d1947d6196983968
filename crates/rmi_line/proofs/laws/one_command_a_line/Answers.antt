use Rattle.rmi_line.proofs.OneLineOneCommand.{same_line}
use Rattle.rmi_line.proofs.laws.one_command_a_line.Goals as goal

pub returns : goal.returns
returns c = same_line c.args.first c.args.second c.typed.ensures c.typed-2.ensures
