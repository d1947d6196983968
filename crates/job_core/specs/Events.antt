-- Lists of events, from the opening state on. This project's choice: an event that is refused is passed over.
use Rattle.std.specs.Prelude.{ℕ, Bool, true, false, not, ◌&&◌, ◌||◌, ◌==◌, List, [], ◌∷◌, Result, Ok, Err, is_ok, count_by}
use Rattle.job_core.specs.declared.job.JobId.{JobId}
use Rattle.job_core.specs.declared.job.JobId.TheVariants.{Page, Launch}
use Rattle.job_core.specs.declared.job.Event.{Event}
use Rattle.job_core.specs.declared.job.Event.TheVariants.{Take, Put, Retire}
use Rattle.job_core.specs.declared.job.CoreFault.{CoreFault}
use Rattle.job_core.specs.Jobs.{CoreState}
use Rattle.job_core.specs.Step.{core_step}

-- the state after a step; an event that is refused leaves it as it was
abbrev pub after : CoreState → Result CoreState CoreFault → CoreState
after s (Ok next) = next
after s (Err fault) = s

unfoldable pub next_state : CoreState → Event → CoreState
next_state s e = after s (core_step s e)

unfoldable pub is_accepted : CoreState → Event → Bool
is_accepted s e = is_ok (core_step s e)

-- the state after some events
abbrev pub replay : CoreState → List Event → CoreState
replay s [] = s
replay s (e ∷ es) = replay (next_state s e) es

-- whether none of them is refused
abbrev pub is_legal : CoreState → List Event → Bool
is_legal s [] = true
is_legal s (e ∷ es) = is_accepted s e && is_legal (next_state s e) es

-- ---- what is read off the events alone

abbrev pub same_job : JobId → JobId → Bool
same_job (Page i) (Page j) = i == j
same_job (Page i) (Launch l) = false
same_job (Launch k) (Page j) = false
same_job (Launch k) (Launch l) = k == l

-- a put of a page by this worker
abbrev pub is_page_put_by : ℕ → Event → Bool
is_page_put_by w (Take v job) = false
is_page_put_by w (Put v (Page j)) = v == w
is_page_put_by w (Put v (Launch l)) = false
is_page_put_by w (Retire v) = false

-- how many pages a worker has put
abbrev pub puts : List Event → ℕ → ℕ
puts es w = count_by (is_page_put_by w) es

-- the jobs that are put, in order
abbrev pub jobs_put : List Event → List JobId
jobs_put [] = []
jobs_put (Take w job ∷ es) = jobs_put es
jobs_put (Put w job ∷ es) = job ∷ jobs_put es
jobs_put (Retire w ∷ es) = jobs_put es

-- whether a worker holds a job after an event, where it did so before it or not
abbrev pub holds_next : ℕ → JobId → Event → Bool → Bool
holds_next w job (Take v other) before = before || ((v == w) && same_job job other)
holds_next w job (Put v other) before = before && not ((v == w) && same_job job other)
holds_next w job (Retire v) before = before && not (v == w)

abbrev pub holds_from : Bool → List Event → ℕ → JobId → Bool
holds_from before [] w job = before
holds_from before (e ∷ es) w job = holds_from (holds_next w job e before) es w job

-- whether a worker has taken a job, and since then has neither put it nor retired
abbrev pub holds : List Event → ℕ → JobId → Bool
holds es w job = holds_from false es w job
