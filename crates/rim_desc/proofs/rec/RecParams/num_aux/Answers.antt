use Rattle.std.proofs.Common.{rules}
use Rattle.rim_desc.proofs.rec.RecParams.num_aux.Goals as goal

pub returns-clause-count : goal.returns-clause-count
returns-clause-count c = search rules
