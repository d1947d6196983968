use Rattle.std.proofs.Common.{rules}
use Rattle.rim_desc.proofs.rec.rec_mpidr.Goals as goal

pub returns : goal.returns
returns c = search rules
