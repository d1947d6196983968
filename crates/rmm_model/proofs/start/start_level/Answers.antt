use Rattle.std.proofs.Common.{rules}
use Rattle.rmm_model.proofs.start.start_level.Goals as goal

pub returns-then-s2sz-le43-clause-value : goal.returns-then-s2sz-le43-clause-value
returns-then-s2sz-le43-clause-value c = search rules
