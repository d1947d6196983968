-- Stretches that are measured one after another.
use Rattle.std.proofs.Common.{◌≡◌, ℕ, zero, suc, ◌+◌, ◌-◌, ◌*◌, ◌<◌, ◌≤◌, refl, arith, List}
use Rattle.rim_desc.specs.declared.measurement.Algo.{Algo}
use Rattle.rim_desc.specs.Descriptor.{ripas_descriptor_of}
use Rattle.rim_desc.specs.Measurement.{measurement_of}
use Rattle.rim_desc.specs.Part.{extended_by}
use Rattle.rmm_model.specs.Blocks.{stretches}
use Rattle.rmm_model.specs.Effects.{ripas_parts}

-- one more
pub stretches-next : (algo : Algo) (rim : List ℕ) (n size from : ℕ) → 0 < n
    → extended_by algo rim (ripas_parts (stretches n size from))
    ≡ extended_by algo (measurement_of algo (ripas_descriptor_of rim from (from + size))) (ripas_parts (stretches (n - 1) size (from + size)))
unfolding stretches
stretches-next algo rim zero size from some = absurd (omega arith)
stretches-next algo rim (suc n) size from some = let e : suc n - 1 ≡ n = omega arith in rw e refl

-- none
pub stretches-end : (algo : Algo) (rim : List ℕ) (size from : ℕ) → extended_by algo rim (ripas_parts (stretches 0 size from)) ≡ rim
unfolding stretches
stretches-end algo rim size from = refl

-- the place after one
pub place-next : (from n size all : ℕ) → 0 < n → from + n * size ≡ all → (from + size) + (n - 1) * size ≡ all
place-next from zero size all some h = absurd (omega arith)
place-next from (suc n) size all some h = let e : suc n - 1 ≡ n = omega arith in rw e (omega arith)

pub place-fits : (from n size all : ℕ) → 0 < n → from + n * size ≡ all → from + size ≤ all
place-fits from zero size all some h = absurd (omega arith)
place-fits from (suc n) size all some h = omega arith
