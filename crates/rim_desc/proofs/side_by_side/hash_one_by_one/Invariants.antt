use Rattle.std.proofs.Common.{◌≡◌, ℕ, List, length, map, take}
use Rattle.std.specs.Borrow.{Bor}
use Rattle.rim_desc.specs.Measurement.{measurement_of}
use Rattle.rim_desc.specs.declared.measurement.Measurement.{Measurement}
use Rattle.rim_desc.proofs.side_by_side.hash_one_by_one.Given as goal

abbrev pub invariant-each : goal.invariant-each
invariant-each l = (length l.digests ≡ length l.messages)
    × (map (λ (m : Measurement). m.bytes) (take l.i l.digests) ≡ map (λ (m : Bor (List ℕ)). measurement_of l.algo m.now) (take l.i l.messages))
