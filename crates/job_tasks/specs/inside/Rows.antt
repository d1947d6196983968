-- Which rows a board keeps. This project's choice.
use Rattle.std.specs.Prelude.{◌≡◌, ℕ, ◌≤◌, false, List, [], length, Option, None, Some, slice_get}
use Rattle.rim_desc.specs.declared.measurement.Measurement.{Measurement}
use Rattle.page_jobs.specs.Page.{PageView}
use Rattle.launch_plan.specs.Links.{PlanView, keys_of}
use Rattle.job_core.specs.declared.job.JobState.TheVariants.{Held}
use Rattle.job_core.specs.Jobs.{CoreState, is_out}
use Rattle.job_tasks.specs.Tasks.{IsOwnRow}

-- the digests of the pages of a launch that has this plan, or none
abbrev pub AreDigestsFor : List PageView → Option PlanView → List Measurement → Type 0
AreDigestsFor pages None digests = digests ≡ []
AreDigestsFor pages (Some p) digests = IsOwnRow pages (keys_of p.links) digests

-- a worker holds no launch
abbrev pub HoldsNoLaunch : CoreState → ℕ → Type 0
HoldsNoLaunch s w = (l : ℕ) → slice_get s.launches l ≡ Some (Held w) → ⊥

-- a row of each worker that is not retired is here, unless it is with the launch that the worker holds; no launch has more pages
-- than this room
pub record HasRows (s : CoreState) (plans : List PlanView) (rows : List (Option (Unit {0}))) (room : ℕ) : Type 0 where
  pub size : length rows ≡ length s.retired
  pub there : (w : ℕ) → is_out s w ≡ false → HoldsNoLaunch s w → slice_get rows w ≡ Some (Some tt)
  pub most : (l : ℕ) (p : PlanView) → slice_get plans l ≡ Some p → length (keys_of p.links) ≤ room
