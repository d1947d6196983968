use Rattle.std.proofs.Common.{◌≡◌, ◌++◌, ℕ, List, length, map, take}
use Rattle.rim_desc.specs.declared.measurement.Measurement.{Measurement}
use Rattle.rim_desc.specs.Measurement.{measurement_of}
use Rattle.rim_desc.proofs.side_by_side.extend_one_by_one.Given as goal

abbrev pub invariant-each : goal.invariant-each
invariant-each l = (length l.rims ≡ length l.descriptors)
    × (map (λ (m : Measurement). m.bytes) (take l.i l.rims) ≡ map (measurement_of l.algo) (take l.i l.descriptors))
