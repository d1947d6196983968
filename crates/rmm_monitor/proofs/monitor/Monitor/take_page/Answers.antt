use Rattle.std.proofs.Common.{arith}
use Rattle.std.proofs.lemmas.Grind.{common_steps}
use Rattle.rmm_monitor.proofs.monitor.Monitor.take_page.Goals as goal

pub returns : goal.returns
returns c = grind (arith, common_steps) steps 4000000
