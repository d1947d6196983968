use Rattle.std.proofs.Common.{rules}
use Rattle.rmm_model.proofs.size.table_base.Goals as goal

pub returns-clause-value : goal.returns-clause-value
returns-clause-value c = search rules
