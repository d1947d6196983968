-- What a put says, whether it is taken or not.
use Rattle.std.specs.Prelude.{Err, IfErr, Ok, OnOk, Result}
use Rattle.job_board.specs.Board.{Adds, BoardView}
use Rattle.job_core.specs.declared.job.Event.{Event}
use Rattle.job_workers.specs.Puts.{Puts}

pub puts : {A E : Type 0} (Can : Type 0) (found : BoardView) (e : Event) (left : BoardView) (r : Result A E) → OnOk r Can → OnOk r (Adds found e left) → IfErr r (λ back. ¬ Can)
    → Puts Can found e left r
puts Can found e left (Ok done) can adds refused = (can, adds)
puts Can found e left (Err back) can adds refused = refused
