use Rattle.std.proofs.Common.{◌≡◌, ◌+◌, ◌*◌, ◌-◌, map}
use Rattle.std.specs.Prelude.{None}
use Rattle.rim_desc.specs.Part.{Data, extended_by}
use Rattle.rmm_model.specs.Blocks.{granules}
use Rattle.rim_chain.proofs.chaining.extended_by_unmeasured.Given as goal

abbrev pub invariant-loop : goal.invariant-loop
invariant-loop l = record {
  place : l.next ≡ l.ipa + 4096 * l.counter;
  left : extended_by l.algo l.rim.bytes (map (λ x. Data x None) (granules (l.count - l.counter) l.next))
      ≡ extended_by l.algo l.fn.rim.bytes (map (λ x. Data x None) (granules l.count l.ipa));
}
