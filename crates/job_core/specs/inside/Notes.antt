-- What the fields of a core keep beside its state. This project's choice.
use Rattle.std.specs.Prelude.{◌≡◌, ℕ, ◌<◌, false, List, length, map, Option, Some, None, slice_get, slice_index_or}
use Rattle.job_core.specs.declared.job.JobId.{JobId}
use Rattle.job_core.specs.declared.job.JobId.TheVariants.{Page, Launch}
use Rattle.job_core.specs.declared.job.JobState.{JobState}
use Rattle.job_core.specs.declared.job.JobState.TheVariants.{Free, Held}
use Rattle.job_core.specs.Jobs.{CoreState, freed, held_count, is_held_by, state_of}

-- one where a job is held
abbrev pub held_of : Option JobId → ℕ
held_of None = 0
held_of (Some job) = 1

-- what each worker holds: a job that it holds, and no other
pub record Notes (holding : List (Option JobId)) (s : CoreState) : Type 0 where
  pub size : length holding ≡ length s.retired
  pub held : (w : ℕ) (job : JobId) → slice_get holding w ≡ Some (Some job) → state_of s job ≡ Some (Held w)
  pub count : (w : ℕ) → held_count s w ≡ held_of (slice_index_or holding w None)

-- a job is made so by a worker, which then holds what is given
abbrev pub Moves : CoreState → ℕ → JobId → JobState → Option JobId → Type 0
Moves s w job x None = (state_of s job ≡ Some (Held w)) × ((v : ℕ) → is_held_by v x ≡ false)
Moves s w job x (Some taken) = (state_of s job ≡ Some Free) × (x ≡ Held w) × (taken ≡ job) × (held_count s w ≡ 0)

-- what a worker holds is free again
abbrev pub released : CoreState → ℕ → CoreState
released s w = record { retired = s.retired; pages = map (freed w) s.pages; launches = map (freed w) s.launches; needs = s.needs }

-- the number of a job that is there
abbrev pub IsJob : JobId → ℕ → ℕ → Type 0
IsJob (Page j) pages launches = j < pages
IsJob (Launch l) pages launches = l < launches
