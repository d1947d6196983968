use Rattle.std.proofs.Common.{arith}
use Rattle.std.proofs.lemmas.Grind.{common_steps}
use Rattle.rmm_monitor.proofs.monitor.Monitor.delegate.Goals as goal

pub returns : goal.returns
returns c = grind (arith, common_steps) steps 300000

pub returns-in_err-delegate : goal.returns-in_err-delegate
returns-in_err-delegate c = grind (arith, common_steps) steps 300000
