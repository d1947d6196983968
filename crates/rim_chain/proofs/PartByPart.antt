-- A chain over links, one part after another.
use Rattle.std.proofs.Common.{◌≡◌, ℕ, zero, suc, ◌+◌, ◌-◌, ◌*◌, ◌^◌, ◌<◌, refl, arith, List, ◌∷◌, length, take, drop}
use Rattle.std.proofs.lemmas.List.{length-append}
use Rattle.std.proofs.lemmas.List.Elements.{All-cons, All-head, All-tail}
use Rattle.std.specs.Prelude.{Some, None}
use Rattle.rim_desc.specs.Descriptor.{data_descriptor_of, rec_descriptor_of, ripas_descriptor_of}
use Rattle.rim_desc.specs.Measurement.{measurement_of}
use Rattle.rim_desc.specs.Part.{extended_by}
use Rattle.rim_desc.specs.declared.measurement.Algo.{Algo}
use Rattle.rim_desc.specs.declared.measurement.Measurement.{Measurement}
use Rattle.rim_desc.proofs.PieceByPiece.{extended_by-append}
use Rattle.rmm_model.specs.Blocks.{granules, stretches}
use Rattle.page_jobs.specs.declared.page.PageKey.{PageKey}
use Rattle.launch_plan.specs.Fitting.{IsFitting}
use Rattle.launch_plan.specs.Links.{IsEmpty, keys_in, keys_of, link_parts, page_count, pages_with, parts_with}
use Rattle.launch_plan.specs.declared.link.Link.{Link}
use Rattle.launch_plan.specs.declared.link.Link.TheVariants.{Blocks, Pages, Unmeasured, Rec}
use Rattle.rim_chain.specs.inside.UnderWay.{AreLeft}
use Rattle.rmm_model.proofs.StretchByStretch.{place-fits, place-next}
use Rattle.launch_plan.proofs.KeysByPlace.{length-keys_in}

module _ (algo : Algo) (rim : List ℕ) (links : List Link) (digests : List Measurement) where
  pub block-first : (base size n : ℕ) → 0 < n → extended_by algo rim (parts_with (Blocks base size n ∷ links) digests)
      ≡ extended_by algo (measurement_of algo (ripas_descriptor_of rim base (base + size))) (parts_with (Blocks (base + size) size (n - 1) ∷ links) digests)
  unfolding parts_with stretches
  block-first base size zero some = absurd (omega arith)
  block-first base size (suc n) some = let e : suc n - 1 ≡ n = omega arith in rw e refl

  pub page-first : (ipa : ℕ) (key : PageKey) (n : ℕ) (d : Measurement) → 0 < n → extended_by algo rim (parts_with (Pages ipa key n ∷ links) (d ∷ digests))
      ≡ extended_by algo (measurement_of algo (data_descriptor_of rim ipa (Some d.bytes))) (parts_with (Pages (ipa + 4096) key (n - 1) ∷ links) digests)
  unfolding parts_with pages_with
  page-first ipa key zero d some = absurd (omega arith)
  page-first ipa key (suc n) d some = let e : suc n - 1 ≡ n = omega arith in rw e refl

  pub unmeasured-first : (ipa n : ℕ) → 0 < n → extended_by algo rim (parts_with (Unmeasured ipa n ∷ links) digests)
      ≡ extended_by algo (measurement_of algo (data_descriptor_of rim ipa None)) (parts_with (Unmeasured (ipa + 4096) (n - 1) ∷ links) digests)
  unfolding parts_with granules
  unmeasured-first ipa zero some = absurd (omega arith)
  unmeasured-first ipa (suc n) some = let e : suc n - 1 ≡ n = omega arith in rw e refl

  pub rec-first : (content : Measurement) → extended_by algo rim (parts_with (Rec content ∷ links) digests)
      ≡ extended_by algo (measurement_of algo (rec_descriptor_of rim content.bytes)) (parts_with (Unmeasured 0 0 ∷ links) digests)
  unfolding parts_with granules
  rec-first content = refl

-- a link without parts can be left out
pub empty-first : (link : Link) (links : List Link) (digests : List Measurement) → IsEmpty link → parts_with (link ∷ links) digests ≡ parts_with links digests
unfolding parts_with
empty-first link links digests empty = rw (empty.0, empty.1) refl

-- no parts
pub none-left : IsEmpty (Unmeasured 0 0)
unfolding granules
none-left = (refl, refl)

-- the first link, and then the others
pub link-first : (algo : Algo) (rim : List ℕ) (link : Link) (links : List Link) (digests : List Measurement) → extended_by algo rim (parts_with (link ∷ links) digests)
    ≡ extended_by algo (extended_by algo rim (link_parts link (take (page_count link) digests))) (parts_with links (drop (page_count link) digests))
unfolding parts_with
link-first algo rim link links digests = extended_by-append algo rim (link_parts link (take (page_count link) digests)) (parts_with links (drop (page_count link) digests))

-- ---- what is left fits, and has its digests

-- how many digests are left: those of the first link, and those of the others
pub digests-left : (link : Link) (links : List Link) (digests : List Measurement) → AreLeft (link ∷ links) digests → length digests ≡ page_count link + length (keys_of links)
digests-left link links digests left =
    let both : length (keys_of (link ∷ links)) ≡ length (keys_in link) + length (keys_of links) = length-append (keys_in link) (keys_of links) in
    omega (arith, both, length-keys_in link, left.filled)

-- the first link in the place of another, with this many digests fewer
other-first : (l m : Link) (links : List Link) (old new : List Measurement) (n : ℕ) → AreLeft (l ∷ links) old → IsFitting m → page_count l ≡ n + page_count m → length old ≡ n + length new → AreLeft (m ∷ links) new
other-first l m links old new n left fits count size =
    let before : length old ≡ page_count l + length (keys_of links) = digests-left l links old left in
    let after : length (keys_of (m ∷ links)) ≡ length (keys_in m) + length (keys_of links) = length-append (keys_in m) (keys_of links) in
    record {
      fit = All-cons IsFitting m links fits (All-tail IsFitting l links left.fit);
      filled = omega (arith, before, after, length-keys_in m, count, size);
    }

module _ (links : List Link) (digests : List Measurement) where
  pub block-left : (base size n : ℕ) → 0 < n → AreLeft (Blocks base size n ∷ links) digests → AreLeft (Blocks (base + size) size (n - 1) ∷ links) digests
  block-left base size n some left =
      let fits : base + n * size < 2 ^ 64 = All-head IsFitting (Blocks base size n) links left.fit in
      let same : (base + size) + (n - 1) * size ≡ base + n * size = place-next base n size _ some refl in
      other-first (Blocks base size n) (Blocks (base + size) size (n - 1)) links digests digests 0 left (rw same fits) refl (omega arith)

  pub block-fits : (base size n : ℕ) → 0 < n → AreLeft (Blocks base size n ∷ links) digests → base + size < 2 ^ 64
  block-fits base size n some left =
      let fits : base + n * size < 2 ^ 64 = All-head IsFitting (Blocks base size n) links left.fit in
      omega (arith, place-fits base n size _ some refl)

  pub page-left : (ipa : ℕ) (key : PageKey) (n : ℕ) (d : Measurement) → 0 < n → AreLeft (Pages ipa key n ∷ links) (d ∷ digests) → AreLeft (Pages (ipa + 4096) key (n - 1) ∷ links) digests
  page-left ipa key n d some left =
      let fits : IsFitting (Pages ipa key n) = All-head IsFitting (Pages ipa key n) links left.fit in
      other-first (Pages ipa key n) (Pages (ipa + 4096) key (n - 1)) links (d ∷ digests) digests 1 left (omega (arith, fits.0), omega (arith, fits.1)) (omega arith) (omega arith)

  pub unmeasured-left : (ipa n : ℕ) → 0 < n → AreLeft (Unmeasured ipa n ∷ links) digests → AreLeft (Unmeasured (ipa + 4096) (n - 1) ∷ links) digests
  unmeasured-left ipa n some left =
      let fits : ipa + 4096 * n < 2 ^ 64 = All-head IsFitting (Unmeasured ipa n) links left.fit in
      other-first (Unmeasured ipa n) (Unmeasured (ipa + 4096) (n - 1)) links digests digests 0 left (omega arith) refl (omega arith)

  pub rec-left : (content : Measurement) → AreLeft (Rec content ∷ links) digests → AreLeft (Unmeasured 0 0 ∷ links) digests
  rec-left content left = other-first (Rec content) (Unmeasured 0 0) links digests digests 0 left (omega arith) refl (omega arith)

  pub empty-left : (link : Link) → IsEmpty link → AreLeft (link ∷ links) digests → AreLeft links digests
  empty-left link empty left = record {
    fit = All-tail IsFitting link links left.fit;
    filled = omega (arith, digests-left link links digests left, empty.0);
  }
