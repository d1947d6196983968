-- The history of a state. This project's choice.
use Rattle.std.specs.Prelude.{◌≡◌, ℕ, ◌+◌, ◌*◌, true, List, length}
use Rattle.job_core.specs.declared.job.Event.{Event}
use Rattle.job_core.specs.Jobs.{CoreState, opening}
use Rattle.job_core.specs.Events.{is_legal, replay}

-- the opening state with as many workers and pages, and the same needs
abbrev pub opening_of : CoreState → CoreState
opening_of s = opening (length s.retired) (length s.pages) s.needs

-- the state is what these events leave, all of which are legal
pub record IsHistory (s : CoreState) (es : List Event) : Type 0 where
  pub replayed : s ≡ replay (opening_of s) es
  pub legal : is_legal (opening_of s) es ≡ true

-- two events for each job and two for each worker
abbrev pub most_events : CoreState → ℕ
most_events s = 2 * (length s.pages + length s.launches) + 2 * length s.retired
