use Rattle.std.proofs.Common.{rules}
use Rattle.rmm_monitor.proofs.parameters.is_cut.Goals as goal

pub returns-else-top-size-ne0 : goal.returns-else-top-size-ne0
returns-else-top-size-ne0 c = search rules
