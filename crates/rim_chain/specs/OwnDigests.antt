-- The digests of a launch's own pages, for the laws of this crate. This project's choice.
use Rattle.std.specs.Prelude.{◌≡◌, ℕ, List, Some}
use Rattle.rim_desc.specs.declared.measurement.Measurement.{Measurement}
use Rattle.page_jobs.specs.Page.{digest_of, page_named}
use Rattle.page_jobs.specs.Table.{TableView, page_at}
use Rattle.page_jobs.specs.declared.page.PageKey.{PageKey}
use Rattle.ipa_layout.specs.Layout.{PlacedData, bytes_of_source}

-- the digest of the page that a key names, where the launch has its place with these files
abbrev pub own_digest : List (List ℕ) → PlacedData → PageKey → Measurement
own_digest files p key = record { bytes = digest_of (page_named (bytes_of_source files p) key) }

-- the table's page of a key is the launch's
abbrev pub HasOwnPage : TableView → List (List ℕ) → PlacedData → PageKey → Type 0
HasOwnPage t files p key = page_at t key ≡ Some (page_named (bytes_of_source files p) key)
