use Rattle.std.proofs.Common.{rules}
use Rattle.rmm_monitor.proofs.space.IpaSpace.is_not_fresh.Goals as goal

pub returns-else-meets_ram : goal.returns-else-meets_ram
returns-else-meets_ram c = search rules
