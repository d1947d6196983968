use Rattle.std.proofs.Common.{◌≡◌, Ok, refl}
use Rattle.job_core.specs.declared.job.Event.TheVariants.{Retire}
use Rattle.job_board.specs.Board.{BoardView}
use Rattle.job_core.specs.Step.{core_step}
use Rattle.job_board.proofs.EventsKeepBoards.{board_other}
use Rattle.job_board.proofs.RowsOfWorkers.{rows_retire}
use Rattle.job_board.proofs.state.BoardState.retire.Goals as goal

pub invariant_of-self-2 : goal.invariant_of-self-2
invariant_of-self-2 g c =
    let i = c.self.inside in
    let b : BoardView = record { core = i.core; history = i.history.items; table = i.table; plans = i.plans.now; results = i.results.items; book = i.book.total } in
    let step : core_step i.core (Retire c.args.worker) ≡ Ok c.record.new.core = c.in-Ok.ensures.step in (
      rw c.in-Ok.ensures.history (board_other b c.record.new.core (Retire c.args.worker) refl c.self.invariant.0 step),
      c.record.ensures.room,
      rows_retire i.core c.record.new.core i.plans.now i.rows.items i.room c.args.worker c.self.invariant.2 step,
      c.self.invariant.3,
      c.self.invariant.4,
    )
