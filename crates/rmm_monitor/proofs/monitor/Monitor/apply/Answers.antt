use Rattle.std.proofs.Common.{rules}
use Rattle.rmm_monitor.proofs.monitor.Monitor.apply.Goals as goal

pub returns-in-Delegate-clause-exact : goal.returns-in-Delegate-clause-exact
returns-in-Delegate-clause-exact c = rw c.in-Delegate.is (search rules)
