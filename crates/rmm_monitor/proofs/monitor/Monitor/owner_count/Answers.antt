use Rattle.std.proofs.Common.{rules}
use Rattle.rmm_monitor.proofs.monitor.Monitor.owner_count.Goals as goal

pub returns : goal.returns
returns c = search rules
