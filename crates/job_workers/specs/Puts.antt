-- What a put under the lock does. This project's choice.
use Rattle.std.specs.Prelude.{Result, Ok, Err}
use Rattle.job_board.specs.Board.{Adds, BoardView}
use Rattle.job_core.specs.declared.job.Event.{Event}

-- a put is taken, and adds its event, exactly where it can be
abbrev pub Puts : {A E : Type 0} → Type 0 → BoardView → Event → BoardView → Result A E → Type 0
Puts Can found e left (Ok done) = Can × Adds found e left
Puts Can found e left (Err back) = ¬ Can
