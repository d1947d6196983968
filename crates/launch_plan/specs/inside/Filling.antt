-- Rows that are being filled. This project's choice.
use Rattle.std.specs.Prelude.{◌≡◌, ◌++◌, List, map, Some}
use Rattle.rim_desc.specs.declared.measurement.Measurement.{Measurement}
use Rattle.page_jobs.specs.Table.{TableView, digest_at}
use Rattle.page_jobs.specs.declared.page.PageKey.{PageKey}

-- to some digests those that a table has for the keys were added, in order
abbrev pub AreAdded : TableView → List PageKey → List Measurement → List Measurement → Type 0
AreAdded t keys old new = map (λ d. Some d) new ≡ map (λ d. Some d) old ++ map (digest_at t) keys
