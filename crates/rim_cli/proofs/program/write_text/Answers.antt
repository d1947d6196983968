use Rattle.std.proofs.Common.{rules}
use Rattle.rim_cli.proofs.program.write_text.Goals as goal

pub returns : goal.returns
returns g c = search rules
