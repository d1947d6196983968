-- Digests of neighbours in a list of pages. This project's choice.
use Rattle.std.specs.Prelude.{◌≡◌, ℕ, ◌≤◌, List, length, take, Some, slice_get}
use Rattle.rim_desc.specs.declared.measurement.Measurement.{Measurement}
use Rattle.page_jobs.specs.Page.{PageView, digest_of}
use Rattle.page_jobs.specs.declared.group.GroupDigests.{GroupDigests}

-- the digests of a group
abbrev pub digests_in : GroupDigests → List Measurement
digests_in group = take group.count group.all

-- some digests are those of the first pages, each of the page in its place
pub record AreDigests (pages : List PageView) (digests : List Measurement) : Type 0 where
  pub within : length digests ≤ length pages
  pub own : (k : ℕ) (p : PageView) (m : Measurement) → slice_get pages k ≡ Some p → slice_get digests k ≡ Some m → m.bytes ≡ digest_of p
