use Rattle.std.proofs.Common.{◌≡◌, ◌++◌, ℕ, List, length, map, take}
use Rattle.rim_desc.specs.declared.measurement.Measurement.{Measurement}
use Rattle.rim_desc.proofs.side_by_side.put_sha512.Given as goal

abbrev pub invariant-each : goal.invariant-each
invariant-each l = (length l.rims ≡ length l.digests)
    × (map (λ (m : Measurement). m.bytes) (take l.i l.rims) ≡ map (λ (d : List ℕ). d) (take l.i l.digests))
