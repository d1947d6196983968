-- What a core counts and marks beside its state. This project's choice.
use Rattle.std.specs.Prelude.{◌≡◌, ◌≢◌, ℕ, ◌+◌, ◌<◌, min, List, length, Option, Some, None, count_by, slice_get}
use Rattle.job_core.specs.declared.job.JobId.{JobId}
use Rattle.job_core.specs.declared.job.JobId.TheVariants.{Page, Launch}
use Rattle.job_core.specs.declared.job.JobState.{JobState}
use Rattle.job_core.specs.declared.job.JobState.TheVariants.{Free}
use Rattle.job_core.specs.Jobs.{CoreState, is_done}

-- none of the first jobs is free, as many as were passed over
abbrev pub Passed : ℕ → List JobState → Type 0
Passed n states = (j : ℕ) → j < n → slice_get states j ≢ Some Free

-- pages that were passed over are not free, and this many pages and launches are not done
pub record Marks (pages_from pages_left launches_left : ℕ) (s : CoreState) : Type 0 where
  pub free : Passed pages_from s.pages
  pub pages : pages_left + count_by is_done s.pages ≡ length s.pages
  pub launches : launches_left + count_by is_done s.launches ≡ length s.launches

-- how many pages are passed over, where what a worker held is free again
abbrev pub lowered_page : ℕ → Option JobId → ℕ
lowered_page n None = n
lowered_page n (Some (Page j)) = min n j
lowered_page n (Some (Launch l)) = n
