use Rattle.std.proofs.Common.{rules}
use Rattle.rmm_monitor.proofs.monitor.cannot_hold_rec.Goals as goal

pub returns-else-has-clause-value : goal.returns-else-has-clause-value
returns-else-has-clause-value c = search rules
