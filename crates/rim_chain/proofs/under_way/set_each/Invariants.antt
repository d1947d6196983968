use Rattle.std.proofs.Common.{map}
use Rattle.rim_desc.specs.declared.measurement.Measurement.{Measurement}
use Rattle.rim_chain.specs.inside.UnderWay.{AreSet}
use Rattle.rim_chain.proofs.under_way.set_each.Given as goal

abbrev pub invariant-each : goal.invariant-each
invariant-each l = AreSet l.i l.fn.chains l.chains (map (λ (m : Measurement). m.bytes) l.values) l.taken
