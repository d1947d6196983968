use Rattle.std.proofs.Common.{◌≡◌, ◌+◌, ◌*◌, ◌-◌}
use Rattle.rim_desc.specs.Part.{extended_by}
use Rattle.rmm_model.specs.Blocks.{stretches}
use Rattle.rmm_model.specs.Effects.{ripas_parts}
use Rattle.rmm_model.proofs.measuring.extended_by_stretches.Given as goal

abbrev pub invariant-loop : goal.invariant-loop
invariant-loop l = record {
  place : l.from + (l.count - l.counter) * l.size ≡ l.base + l.count * l.size;
  left : extended_by l.algo l.rim.bytes (ripas_parts (stretches (l.count - l.counter) l.size l.from))
      ≡ extended_by l.algo l.fn.rim.bytes (ripas_parts (stretches l.count l.size l.base));
}
