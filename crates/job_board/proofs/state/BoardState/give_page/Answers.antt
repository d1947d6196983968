use Rattle.std.proofs.Common.{◌≡◌, ◌<◌, Ok, ap, arith, false, length, refl, true}
use Rattle.std.proofs.lemmas.List.{length-map}
use Rattle.std.proofs.lemmas.Option.{slice_get_within}
use Rattle.page_jobs.specs.Page.{page_view}
use Rattle.job_core.specs.declared.job.Event.TheVariants.{Take}
use Rattle.job_core.specs.declared.job.JobId.TheVariants.{Page}
use Rattle.job_core.specs.declared.job.JobState.TheVariants.{Free}
use Rattle.job_board.specs.Board.{BoardView}
use Rattle.job_core.specs.Step.{core_step}
use Rattle.job_board.proofs.EventsKeepBoards.{board_other}
use Rattle.job_core.proofs.WhatStepsChange.{take_says}
use Rattle.job_board.proofs.RowsOfWorkers.{rows_take_page}
use Rattle.job_board.proofs.state.BoardState.give_page.Goals as goal

pub unreachable-requires-in_default-new : goal.unreachable-requires-in_default-new
unreachable-requires-in_default-new g c =
    let i = c.self.inside in
    let step : core_step i.core (Take c.args.worker (Page c.args.page)) ≡ Ok c.record.new.core = c.in-Ok.ensures.step in
    let within = slice_get_within i.core.pages c.args.page Free (take_says i.core c.record.new.core c.args.worker (Page c.args.page) step).0 in
    let lt : c.args.page < length c.pages.result.now = omega (arith, within, c.self.invariant.0.slots, ap length c.pages.ensures.pages, length-map c.pages.result.now page_view) in
    let impossible : false ≡ true = c.in_default-new.ensures.there.1 lt in
    cc

pub invariant_of-self : goal.invariant_of-self
invariant_of-self g c =
    let i = c.self.inside in
    let b : BoardView = record { core = i.core; history = i.history.items; table = i.table; plans = i.plans.now; results = i.results.items; book = i.book.total } in
    let step : core_step i.core (Take c.args.worker (Page c.args.page)) ≡ Ok c.record.new.core = c.in-Ok.ensures.step in (
      rw c.in-Ok.ensures.history (board_other b c.record.new.core (Take c.args.worker (Page c.args.page)) refl c.self.invariant.0 step),
      c.record.ensures.room,
      rows_take_page i.core c.record.new.core i.plans.now i.rows.items i.room c.args.worker c.args.page c.self.invariant.2 step,
      c.self.invariant.3,
      c.self.invariant.4,
    )
