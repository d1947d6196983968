use Rattle.std.proofs.Common.{rules}
use Rattle.rmm_model.proofs.size.span_of_level.Goals as goal

pub returns-clause-value : goal.returns-clause-value
returns-clause-value c = search rules
