use Rattle.std.proofs.Common.{arith}
use Rattle.std.proofs.lemmas.Grind.{common_steps}
use Rattle.rmm_monitor.proofs.monitor.Monitor.data_create.Goals as goal

pub returns : goal.returns
returns c = grind (arith, common_steps) steps 500000

pub returns-in_err-take_page : goal.returns-in_err-take_page
returns-in_err-take_page c = grind (arith, common_steps) steps 4000000
