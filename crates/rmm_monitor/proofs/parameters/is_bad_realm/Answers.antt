use Rattle.std.proofs.Common.{rules}
use Rattle.rmm_monitor.proofs.parameters.is_bad_realm.Goals as goal

pub returns-else-params-bytes-ne0-clause-value : goal.returns-else-params-bytes-ne0-clause-value
returns-else-params-bytes-ne0-clause-value c = search rules
