-- The digests of pages that are hashed side by side.
use Rattle.std.proofs.Common.{◌≡◌, ℕ, ◌<◌, ◌≤◌, List, length, map, take, slice_get, Some, ap, sym, ◌∙◌, arith, subst, inl, inr}
use Rattle.std.proofs.lemmas.List.{get_or-take, length-map, length-take}
use Rattle.std.proofs.lemmas.Option.{get_or_from_slice_get, slice_get-get_or, slice_get-map, slice_get_within}
use Rattle.std.specs.Prelude.{option_map, slice_index_or}
use Rattle.rim_desc.specs.declared.measurement.Measurement.{Measurement}
use Rattle.page_jobs.specs.Group.{AreDigests}
use Rattle.page_jobs.specs.Page.{PageView, digest_of, page_view}
use Rattle.page_jobs.specs.declared.page.Page.{Page}

-- the first n of some digests have the digest in place k, which is below n
pub kept_digest : (all : List Measurement) (n k : ℕ) (d : Measurement) → k < n → n ≤ length all → slice_get (take n all) k ≡ Some (slice_index_or all k d)
kept_digest all n k d low room =
    slice_get-get_or (take n all) k d (omega (arith, low, room, length-take n all)) ∙ ap Some (get_or-take n all k d low)

-- a digest of a group is that of the page in its place
pub digest_in_group : (pages : List Page) (n : ℕ) (digests : List Measurement) → AreDigests (map page_view (take n pages)) digests
    → (k : ℕ) (m : Measurement) (d : Page) → slice_get digests k ≡ Some m
    → (slice_get (take n pages) k ≡ Some (slice_index_or (take n pages) k d)) × (m.bytes ≡ digest_of (page_view (slice_index_or (take n pages) k d))) × (k < n)
digest_in_group pages n digests are k m d there =
    let low : k < length digests = slice_get_within digests k m there in
    let within : k < length (take n pages) = omega (arith, low, are.within, length-map (take n pages) page_view) in
    let here = slice_get-get_or (take n pages) k d within in
    let view = slice_get-map page_view (take n pages) k ∙ ap (option_map page_view) here in
    (here, are.own k _ m view there, omega (arith, within, length-take n pages))
