-- What contracts see of a page. This project's choice.
use Rattle.std.specs.Prelude.{◌≡◌, ℕ, List}
use Rattle.rim_desc.specs.Page.{with_part, zeros}
use Rattle.rim_desc.specs.Measurement.{measurement_of}
use Rattle.rim_desc.specs.declared.measurement.Algo.{Algo}
use Rattle.rim_desc.specs.declared.source.Source.{Source}
use Rattle.page_jobs.specs.Lent.{front_of, lent_of}
use Rattle.page_jobs.specs.declared.page.PageKey.{PageKey}
use Rattle.page_jobs.specs.declared.page.Page.{Page}
use Rattle.rim_desc.specs.declared.page.TheConstants.{PAGE_SIZE}

-- a page is its key and the bytes of its item that fall in it; two pages are equal where both are
pub record PageView : Type 0 where
  pub key : PageKey
  pub bytes : List ℕ

abbrev pub page_view : Page → PageView
page_view p = record { key = p.key; bytes = p.bytes.now }

-- page k of an item, for an algorithm that hashes it: the item has a source, a lead and its bytes
abbrev pub page_of : Algo → Source → ℕ → List ℕ → ℕ → PageView
page_of algo source lead item k = record {
  key = record { algo = algo; source = source; lead = lead; number = k };
  bytes = lent_of lead item k;
}

-- the page that a key names, where `items` gives the bytes of each source's item
abbrev pub page_named : (Source → List ℕ) → PageKey → PageView
page_named items key = page_of key.algo key.source key.lead (items key.source) key.number

-- a page of these items is the one that its key names
abbrev pub IsPageOf : (Source → List ℕ) → PageView → Type 0
IsPageOf items p = p ≡ page_named items p.key

-- the 4096 bytes of a page: zeros in front, the item's bytes, and zeros after them
abbrev pub bytes_of_page : PageView → List ℕ
bytes_of_page p = with_part (zeros PAGE_SIZE) (front_of p.key.lead p.key.number) p.bytes

-- the measurement of a page
abbrev pub digest_of : PageView → List ℕ
digest_of p = measurement_of p.key.algo (bytes_of_page p)
