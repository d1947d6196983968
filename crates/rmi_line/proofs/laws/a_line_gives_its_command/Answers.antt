use Rattle.rmi_line.proofs.OneLineOneCommand.{read_again}
use Rattle.rmi_line.proofs.laws.a_line_gives_its_command.Goals as goal

pub returns : goal.returns
returns c = read_again c.args.command c.typed.ensures
