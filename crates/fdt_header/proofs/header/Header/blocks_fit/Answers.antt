use Rattle.std.proofs.Common.{rules}
use Rattle.fdt_header.proofs.header.Header.blocks_fit.Goals as goal

pub returns-then-holds : goal.returns-then-holds
returns-then-holds c = search rules

pub returns-else-holds : goal.returns-else-holds
returns-else-holds c = search rules
