-- The line of launches that wait for nothing. This project's choice.
use Rattle.std.specs.Prelude.{◌≡◌, ◌≢◌, ℕ, ◌+◌, ◌<◌, ◌≤◌, nat_lt, List, length, Some, count_by, slice_get, slice_index}
use Rattle.std.specs.List.{All, Contains}
use Rattle.job_core.specs.declared.job.JobId.{JobId}
use Rattle.job_core.specs.declared.job.JobId.TheVariants.{Page, Launch}
use Rattle.job_core.specs.declared.job.JobState.{JobState}
use Rattle.job_core.specs.declared.job.JobState.TheVariants.{Free, Held, Done}

-- the launches of which nothing is left, and no others, are in line; and it has room for the others
pub record IsLine (lefts ready : List ℕ) (room : ℕ) : Type 0 where
  pub every : (l : ℕ) → l < length lefts → slice_index lefts l ≡ 0 → Contains ready l
  pub only : All (λ l. slice_index lefts l ≡ 0) ready
  pub room_left : length ready + count_by (nat_lt 0) lefts ≤ room

-- the launch at a place of a line is free
abbrev pub IsFreeAt : List JobState → List ℕ → ℕ → Type 0
IsFreeAt launches ready i = slice_get launches (slice_index ready i) ≡ Some Free

-- the first ones of a line, as many as were passed over, are not free
pub record IsPassed (launches : List JobState) (ready : List ℕ) (from : ℕ) : Type 0 where
  pub within : from ≤ length ready
  pub passed : (i : ℕ) → i < from → slice_get launches (slice_index ready i) ≢ Some Free

-- how many are passed over, where a job is made so: none, where a launch is free again
abbrev pub passed_over : ℕ → JobId → JobState → ℕ
passed_over n (Page j) x = n
passed_over n (Launch l) Free = 0
passed_over n (Launch l) (Held w) = n
passed_over n (Launch l) Done = n
