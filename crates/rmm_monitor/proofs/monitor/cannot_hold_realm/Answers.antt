use Rattle.std.proofs.Common.{rules}
use Rattle.rmm_monitor.proofs.monitor.cannot_hold_realm.Goals as goal

pub returns-else-not-all_delegated-clause-value : goal.returns-else-not-all_delegated-clause-value
returns-else-not-all_delegated-clause-value c = search rules
