use Rattle.std.proofs.Common.{rules}
use Rattle.rtt_plan.proofs.tables.Tables.walk_level.Goals as goal

pub returns : goal.returns
returns c = search rules
