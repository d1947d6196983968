-- Jobs and workers. This project's choice: each page to be hashed and each launch to be chained is a job. A
-- job is free, held by one worker, or done. A launch needs some pages.
use Rattle.std.specs.Prelude.{◌≡◌, ◌≢◌, ℕ, ◌+◌, ◌<◌, ◌≤◌, Bool, true, false, ◌==◌, ◌&&◌, if◌then◌else◌, List, [], length, map, replicate, Option, Some, unwrap_or, count_by, slice_get, slice_set, slice_index_or}
use Rattle.std.specs.List.{All, list_all}
use Rattle.job_core.specs.declared.job.JobId.{JobId}
use Rattle.job_core.specs.declared.job.JobId.TheVariants.{Page, Launch}
use Rattle.job_core.specs.declared.job.JobState.{JobState}
use Rattle.job_core.specs.declared.job.JobState.TheVariants.{Free, Held, Done}
use Rattle.job_core.specs.declared.machine.TheConstants.{WORKER_LIMIT}

-- which workers are retired, how each job is, and the pages that each launch needs
pub record CoreState : Type 0 where
  pub retired : List Bool
  pub pages : List JobState
  pub launches : List JobState
  pub needs : List (List ℕ)

-- at first no worker is retired and each job is free
abbrev pub opening : ℕ → ℕ → List (List ℕ) → CoreState
opening workers pages needs =
    record { retired = replicate workers false; pages = replicate pages Free; launches = replicate (length needs) Free; needs = needs }

-- ---- how a job is

abbrev pub is_free : JobState → Bool
is_free Free = true
is_free (Held w) = false
is_free Done = false

abbrev pub is_held_by : ℕ → JobState → Bool
is_held_by w Free = false
is_held_by w (Held v) = v == w
is_held_by w Done = false

abbrev pub is_done : JobState → Bool
is_done Free = false
is_done (Held w) = false
is_done Done = true

-- how a job is, if there is such a job
abbrev pub state_of : CoreState → JobId → Option JobState
state_of s (Page j) = slice_get s.pages j
state_of s (Launch l) = slice_get s.launches l

-- ---- what is asked of a state

-- whether a worker is retired or its number is unknown
abbrev pub is_out : CoreState → ℕ → Bool
is_out s w = unwrap_or (slice_get s.retired w) true

-- how many jobs a worker holds
abbrev pub held_count : CoreState → ℕ → ℕ
held_count s w = count_by (is_held_by w) s.pages + count_by (is_held_by w) s.launches

abbrev pub is_page_done : List JobState → ℕ → Bool
is_page_done pages p = is_done (slice_index_or pages p Free)

-- whether all pages that a job needs are done
abbrev pub is_ready : CoreState → JobId → Bool
is_ready s (Page j) = true
is_ready s (Launch l) = list_all (is_page_done s.pages) (slice_index_or s.needs l [])

-- a launch is free and ready
abbrev pub IsOpen : CoreState → ℕ → Type 0
IsOpen s l = (slice_get s.launches l ≡ Some Free) × (is_ready s (Launch l) ≡ true)

-- no launch that is free is ready
abbrev pub NoneOpen : CoreState → Type 0
NoneOpen s = (l : ℕ) → slice_get s.launches l ≡ Some Free → is_ready s (Launch l) ≡ false

-- none of some jobs is free
abbrev pub NoneFree : List JobState → Type 0
NoneFree states = (j : ℕ) → slice_get states j ≢ Some Free

-- some worker holds a job
abbrev pub SomeHeld : CoreState → Type 0
SomeHeld s = (job : JobId) × (w : ℕ) × (state_of s job ≡ Some (Held w))

abbrev pub pages_done : CoreState → ℕ
pages_done s = count_by is_done s.pages

-- whether all jobs are done
abbrev pub is_over : CoreState → Bool
is_over s = list_all is_done s.pages && list_all is_done s.launches

-- ---- what is changed

abbrev pub with_page : JobId → JobState → List JobState → List JobState
with_page (Page j) x pages = slice_set pages j x
with_page (Launch l) x pages = pages

abbrev pub with_launch : JobId → JobState → List JobState → List JobState
with_launch (Page j) x launches = launches
with_launch (Launch l) x launches = slice_set launches l x

-- one job is changed
abbrev pub with_job : CoreState → JobId → JobState → CoreState
with_job s job x = record { retired = s.retired; pages = with_page job x s.pages; launches = with_launch job x s.launches; needs = s.needs }

abbrev pub freed : ℕ → JobState → JobState
freed w x = if is_held_by w x then Free else x

-- a worker retires: what it holds is free again
abbrev pub without_worker : CoreState → ℕ → CoreState
without_worker s w =
    record { retired = slice_set s.retired w true; pages = map (freed w) s.pages; launches = map (freed w) s.launches; needs = s.needs }

-- ---- what a core is made with

-- all needs are numbers of pages
abbrev pub NeedsWithin : List (List ℕ) → ℕ → Type 0
NeedsWithin needs pages = All (All (λ p. p < pages)) needs

-- what every core keeps: worker 0 is not retired, there are 1 to WORKER_LIMIT workers, and all needs are numbers of pages
pub record IsCore (s : CoreState) : Type 0 where
  pub first : is_out s 0 ≡ false
  pub workers : length s.retired ≤ WORKER_LIMIT
  pub launches : length s.launches ≡ length s.needs
  pub needs : NeedsWithin s.needs (length s.pages)
