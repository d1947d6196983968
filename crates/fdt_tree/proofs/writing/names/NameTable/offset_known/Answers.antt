use Rattle.std.proofs.Common.{rules}
use Rattle.fdt_tree.proofs.writing.names.NameTable.offset_known.Goals as goal

pub returns-in-Some : goal.returns-in-Some
returns-in-Some c = search rules
