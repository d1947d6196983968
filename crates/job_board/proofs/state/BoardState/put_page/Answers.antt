use Rattle.std.proofs.Common.{◌≡◌, ◌+◌, ◌∙◌, List, Ok, Some, ap, arith, sym}
use Rattle.std.specs.List.{slice_get}
use Rattle.page_jobs.specs.Page.{PageView, page_view}
use Rattle.page_jobs.proofs.OneMoreDigest.{filled_table}
use Rattle.job_core.specs.declared.job.Event.TheVariants.{Put}
use Rattle.job_core.specs.declared.job.JobId.TheVariants.{Page}
use Rattle.job_board.specs.Board.{BoardView}
use Rattle.job_core.specs.Step.{core_step}
use Rattle.job_board.proofs.EventsKeepBoards.{board_put_page, slot_empty}
use Rattle.job_core.proofs.WhatStepsChange.{put_says}
use Rattle.job_board.proofs.RowsOfWorkers.{rows_put_page}
use Rattle.job_board.proofs.state.BoardState.put_page.Goals as goal

pub keep-requires : goal.keep-requires
keep-requires g c =
    let i = c.self.inside in
    let n = c.number-number.result in
    let step : core_step i.core (Put c.args.worker (Page n)) ≡ Ok c.record.new.core = c.in-Ok.ensures.step in
    let was = put_says i.core c.record.new.core c.args.worker (Page n) step in
    let own : slice_get i.table.pages n ≡ Some (page_view c.into_hashed.result.page) =
    ap (λ (pages : List PageView). slice_get pages n) c.self.invariant.4.0
    ∙ (ap (slice_get g.L.Run.pages) c.number-number.ensures ∙ (c.into_hashed.ensures.own ∙ ap (λ (p : PageView). Some p) (sym c.into_hashed.ensures.page))) in
    (own, slot_empty i.table.digests i.core.pages c.args.worker n c.self.invariant.0.filled was.1)

pub invariant_of-self-2 : goal.invariant_of-self-2
invariant_of-self-2 g c =
    let i = c.self.inside in
    let n = c.number-number.result in
    let d = c.into_hashed.result.digest in
    let b : BoardView = record { core = i.core; history = i.history.items; table = i.table; plans = i.plans.now; results = i.results.items; book = i.book.total } in
    let step : core_step i.core (Put c.args.worker (Page n)) ≡ Ok c.record.new.core = c.in-Ok.ensures.step in
    let was = put_says i.core c.record.new.core c.args.worker (Page n) step in
    let own : slice_get i.table.pages n ≡ Some (page_view c.into_hashed.result.page) =
    ap (λ (pages : List PageView). slice_get pages n) c.self.invariant.4.0
    ∙ (ap (slice_get g.L.Run.pages) c.number-number.ensures ∙ (c.into_hashed.ensures.own ∙ ap (λ (p : PageView). Some p) (sym c.into_hashed.ensures.page))) in
    let table = filled_table i.table n (page_view c.into_hashed.result.page) d c.self.invariant.0.table own c.into_hashed.result.own in
    let book : c.add.new.self.total ≡ b.book + 1 = omega (arith, c.add.ensures.total, c.audit.ensures.total) in (
      rw (c.in-Ok.ensures.history, c.keep.ensures, book) (board_put_page b c.record.new.core c.args.worker n d c.self.invariant.0 table step),
      c.record.ensures.room,
      rows_put_page i.core c.record.new.core i.plans.now i.rows.items i.room c.args.worker n c.self.invariant.2 step,
      c.self.invariant.3,
      rw c.keep.ensures c.self.invariant.4,
    )
