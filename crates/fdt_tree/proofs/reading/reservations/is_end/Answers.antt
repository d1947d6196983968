use Rattle.std.proofs.Common.{rules}
use Rattle.fdt_tree.proofs.reading.reservations.is_end.Goals as goal

pub returns-else-pair-eq0 : goal.returns-else-pair-eq0
returns-else-pair-eq0 c = search rules
