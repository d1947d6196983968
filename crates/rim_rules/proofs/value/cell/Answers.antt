use Rattle.std.proofs.Common.{sym}
use Rattle.toml.proofs.Views.{table_get}
use Rattle.rim_rules.proofs.value.cell.Goals as goal

pub returns : goal.returns
returns c = sym (table_get c.get.result c.args.key.now c.args.table.now.entries c.get.ensures.value)
