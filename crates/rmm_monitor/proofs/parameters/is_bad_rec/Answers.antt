use Rattle.std.proofs.Common.{rules}
use Rattle.rmm_monitor.proofs.parameters.is_bad_rec.Goals as goal

pub returns-else-mpidr-ne0 : goal.returns-else-mpidr-ne0
returns-else-mpidr-ne0 c = search rules
