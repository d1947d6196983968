-- Parts that extend a measurement, piece by piece.
use Rattle.std.proofs.Common.{◌≡◌, ℕ, List, [], ◌∷◌, ◌++◌, refl}
use Rattle.rim_desc.specs.Part.{Part, extended, extended_by}
use Rattle.rim_desc.specs.declared.measurement.Algo.{Algo}

pub extended_by-append : (algo : Algo) (rim : List ℕ) (ps qs : List Part) → extended_by algo rim (ps ++ qs) ≡ extended_by algo (extended_by algo rim ps) qs
extended_by-append algo rim [] qs = refl
extended_by-append algo rim (part ∷ ps) qs = extended_by-append algo (extended algo rim part) ps qs
