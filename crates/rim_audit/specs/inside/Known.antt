-- Digests of pages of a release's files that are known. This project's choice.
use Rattle.std.specs.Prelude.{◌≡◌, ℕ, List, [], Some, get_or}
use Rattle.std.specs.List.{slice_get}
use Rattle.rim_desc.specs.Measurement.{measurement_of}
use Rattle.rim_desc.specs.PageBytes.{page_bytes}
use Rattle.rim_desc.specs.declared.measurement.Measurement.{Measurement}
use Rattle.rim_audit.specs.declared.known_pages.FileDigests.{FileDigests}
use Rattle.rim_audit.specs.declared.known_pages.FileKey.{FileKey}

-- the digest of a page of a file that is read so
abbrev pub page_digest : List (List ℕ) → FileKey → ℕ → List ℕ
page_digest files key page = measurement_of key.algo (page_bytes key.lead (get_or files key.file []) page)

-- digests are those of the first pages of their file
abbrev pub IsKnownOf : List (List ℕ) → FileDigests → Type 0
IsKnownOf files d = (page : ℕ) (m : Measurement) → slice_get d.digests.items page ≡ Some m → m.bytes ≡ page_digest files d.key page
