use Rattle.std.proofs.Common.{rules}
use Rattle.rmm_monitor.proofs.monitor.Monitor.new.Goals as goal

pub returns : goal.returns
returns c = search rules
