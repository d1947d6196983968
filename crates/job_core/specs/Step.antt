-- What each event does. This project's choice: of the checks that hold, the first one refuses the event.
use Rattle.std.specs.Prelude.{Bool, false, not, ◌||◌, ◌==◌, nat_lt, List, [], ◌∷◌, Option, Some, None, is_some, Result}
use Rattle.refusal.specs.Checks.{Check, unless_refused}
use Rattle.job_core.specs.declared.job.JobState.{JobState}
use Rattle.job_core.specs.declared.job.JobState.TheVariants.{Held, Done}
use Rattle.job_core.specs.declared.job.Event.{Event}
use Rattle.job_core.specs.declared.job.Event.TheVariants.{Take, Put, Retire}
use Rattle.job_core.specs.declared.job.CoreFault.{CoreFault}
use Rattle.job_core.specs.declared.job.CoreFault.TheVariants.{Retired, NoSuchJob, Stranger, Busy, Taken, Early}
use Rattle.job_core.specs.Jobs.{CoreState, state_of, is_free, is_held_by, is_out, held_count, is_ready, with_job, without_worker}

-- whether there is a job, and it is so
abbrev pub job_is : (JobState → Bool) → Option JobState → Bool
job_is test None = false
job_is test (Some x) = test x

-- the checks of an event
abbrev pub checks : CoreState → Event → List (Check CoreFault)
checks s (Take w job) =
    (Retired, is_out s w)
    ∷ (NoSuchJob, not (is_some (state_of s job)))
    ∷ (Busy, nat_lt 0 (held_count s w))
    ∷ (Taken, not (job_is is_free (state_of s job)))
    ∷ (Early, not (is_ready s job))
    ∷ []
checks s (Put w job) =
    (Retired, is_out s w)
    ∷ (NoSuchJob, not (is_some (state_of s job)))
    ∷ (Stranger, not (job_is (is_held_by w) (state_of s job)))
    ∷ []
checks s (Retire w) = (Retired, (w == 0) || is_out s w) ∷ []

-- what an event makes of a state
abbrev pub changed : CoreState → Event → CoreState
changed s (Take w job) = with_job s job (Held w)
changed s (Put w job) = with_job s job Done
changed s (Retire w) = without_worker s w

-- the step of an event: its first check that holds, or the next state
abbrev pub core_step : CoreState → Event → Result CoreState CoreFault
core_step s e = unless_refused (checks s e) (changed s e)
