use Rattle.std.proofs.Common.{ap}
use Rattle.std.proofs.Math.Seq.{map-set_same}
use Rattle.rim_check.specs.declared.warnings.Warning.{Warning}
use Rattle.rim_check.proofs.warnings.Warnings.count_other.Goals as goal

pub returns : goal.returns
returns c = map-set_same (λ (w : Warning). w.launch) c.args.self.now.found.items c.args.at _ _ (ap (λ (w : Warning). w.launch) c.index_mut.ensures.value)
