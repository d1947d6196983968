-- Measurements extended by the parts of a link, one after another.
use Rattle.std.proofs.Common.{◌≡◌, ℕ, zero, suc, ◌+◌, ◌-◌, ◌<◌, ◌≤◌, refl, arith, List, length, map, get_or, drop}
use Rattle.std.specs.Prelude.{Some, None}
use Rattle.std.proofs.lemmas.List.{at_drop_all, at_drop_more}
use Rattle.rim_desc.specs.Descriptor.{data_descriptor_of}
use Rattle.rim_desc.specs.Measurement.{measurement_of}
use Rattle.rim_desc.specs.Part.{Data, extended_by}
use Rattle.rim_desc.specs.declared.measurement.Algo.{Algo}
use Rattle.rim_desc.specs.declared.measurement.Measurement.{Measurement}
use Rattle.rmm_model.specs.Blocks.{granules}
use Rattle.launch_plan.specs.Links.{pages_with}

-- ---- measured pages

pub pages-next : (algo : Algo) (rim : List ℕ) (ipa i : ℕ) (digests : List Measurement) (d : Measurement) → i < length digests
    → extended_by algo rim (pages_with ipa (drop i digests))
    ≡ extended_by algo (measurement_of algo (data_descriptor_of rim ipa (Some (get_or digests i d).bytes))) (pages_with (ipa + 4096) (drop (i + 1) digests))
unfolding pages_with
pages-next algo rim ipa i digests d inside = at_drop_more (λ ds. extended_by algo rim (pages_with ipa ds)) digests i d inside

pub pages-end : (algo : Algo) (rim : List ℕ) (ipa i : ℕ) (digests : List Measurement) → length digests ≤ i → extended_by algo rim (pages_with ipa (drop i digests)) ≡ rim
unfolding pages_with
pages-end algo rim ipa i digests past = at_drop_all (λ ds. extended_by algo rim (pages_with ipa ds)) digests i past

-- ---- pages that are not measured

pub unmeasured-next : (algo : Algo) (rim : List ℕ) (n ipa : ℕ) → 0 < n
    → extended_by algo rim (map (λ x. Data x None) (granules n ipa))
    ≡ extended_by algo (measurement_of algo (data_descriptor_of rim ipa None)) (map (λ x. Data x None) (granules (n - 1) (ipa + 4096)))
unfolding granules
unmeasured-next algo rim zero ipa some = absurd (omega arith)
unmeasured-next algo rim (suc n) ipa some = let e : suc n - 1 ≡ n = omega arith in rw e refl

pub unmeasured-end : (algo : Algo) (rim : List ℕ) (ipa : ℕ) → extended_by algo rim (map (λ x. Data x None) (granules 0 ipa)) ≡ rim
unfolding granules
unmeasured-end algo rim ipa = refl
