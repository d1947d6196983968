-- Pages that can be hashed side by side. This project's choice.
use Rattle.std.specs.Prelude.{◌≡◌, ℕ, ◌<◌, List, length, Some, slice_get}
use Rattle.rim_desc.specs.declared.measurement.Algo.{Algo}
use Rattle.page_jobs.specs.Page.{PageView}
use Rattle.rim_desc.specs.declared.page.TheConstants.{PAGE_SIZE}

-- a page by an algorithm, of whose bytes all are its item's
abbrev pub IsWhole : Algo → PageView → Type 0
IsWhole algo p = (p.key.algo ≡ algo) × (length p.bytes ≡ PAGE_SIZE)

-- the first n pages are whole
abbrev pub AreWhole : Algo → List PageView → ℕ → Type 0
AreWhole algo pages n = (k : ℕ) (p : PageView) → k < n → slice_get pages k ≡ Some p → IsWhole algo p
