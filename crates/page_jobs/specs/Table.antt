-- What contracts see of a table of digests. This project's choice.
use Rattle.std.specs.Prelude.{◌≡◌, ℕ, List, length, map, Option, Some, None, slice_get, slice_set, option_and_then}
use Rattle.std.specs.List.{position}
use Rattle.std.specs.Ordering.{is_eq}
use Rattle.rim_desc.specs.declared.measurement.Measurement.{Measurement}
use Rattle.page_jobs.specs.Key.{IsRising, key_cmp}
use Rattle.page_jobs.specs.Page.{PageView, digest_of}
use Rattle.page_jobs.specs.declared.page.PageKey.{PageKey}

-- the pages that it was reserved for, and for each the digest in its slot, where that is filled
pub record TableView : Type 0 where
  pub pages : List PageView
  pub digests : List (Option Measurement)

abbrev pub page_keys_of : List PageView → List PageKey
page_keys_of pages = map (λ p. p.key) pages

-- the keys rise, each page has a slot, and a filled slot has the digest of its own page
pub record IsTable (t : TableView) : Type 0 where
  pub rising : IsRising (page_keys_of t.pages)
  pub size : length t.digests ≡ length t.pages
  pub own : (j : ℕ) (p : PageView) (m : Measurement) → slice_get t.pages j ≡ Some p → slice_get t.digests j ≡ Some (Some m) → m.bytes ≡ digest_of p

-- slot j is this page's, and is empty
abbrev pub CanFill : TableView → ℕ → PageView → Type 0
CanFill t j p = (slice_get t.pages j ≡ Some p) × (slice_get t.digests j ≡ Some None)

abbrev pub with_digest : TableView → ℕ → Measurement → TableView
with_digest t j m = record t { digests = slice_set t.digests j (Some m) }

-- the slot of the page that has the key
abbrev pub slot_of : List PageView → PageKey → Option ℕ
slot_of pages key = position (λ p. is_eq (key_cmp p.key key)) pages

-- the digest in a slot, where such a slot exists and is filled
abbrev pub digest_in : TableView → ℕ → Option Measurement
digest_in t j = option_and_then (λ slot. slot) (slice_get t.digests j)

-- the page that has the key, where one exists
abbrev pub page_at : TableView → PageKey → Option PageView
page_at t key = option_and_then (slice_get t.pages) (slot_of t.pages key)

-- the digest of the page that has the key, where such a page exists and its slot is filled
abbrev pub digest_at : TableView → PageKey → Option Measurement
digest_at t key = option_and_then (digest_in t) (slot_of t.pages key)
