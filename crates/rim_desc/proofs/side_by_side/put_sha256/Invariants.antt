use Rattle.std.proofs.Common.{◌≡◌, ◌++◌, ℕ, List, length, map, take}
use Rattle.rim_desc.specs.declared.measurement.Measurement.{Measurement}
use Rattle.rim_desc.specs.Page.{zeros}
use Rattle.rim_desc.proofs.side_by_side.put_sha256.Given as goal

abbrev pub invariant-each : goal.invariant-each
invariant-each l = (length l.rims ≡ length l.digests)
    × (map (λ (m : Measurement). m.bytes) (take l.i l.rims) ≡ map (λ (d : List ℕ). d ++ zeros 32) (take l.i l.digests))
