use Rattle.std.proofs.Common.{◌≡◌, ◌∙◌, List, None, ap, length, replicate, rules}
use Rattle.std.specs.List.{slice_get}
use Rattle.launch_plan.specs.Links.{PlanView}
use Rattle.job_tasks.specs.Tasks.{whole_table}
use Rattle.job_board.proofs.NewBoards.{board_new, plan_fits, rows_new}
use Rattle.job_core.proofs.CoreCounts.{core_fresh}
use Rattle.job_board.proofs.state.BoardState.with_lanes.Goals as goal

pub invariant_of-result : goal.invariant_of-result
invariant_of-result g c =
    let count = length c.args.plans.now in
    let size = length c.args.table.pages in
    let needs = c.in_ok-core.core.needs in
    let own = c.in_ok-core.ensures.needs in
    let none : c.in_ok-results.results.items ≡ replicate count None = search rules in
    let fresh = core_fresh c.args.workers size needs c.requires.workers.0 c.requires.workers.1 c.in_ok-core.ensures.within in (
      rw (c.in_ok-core.ensures.core, c.in_ok-core.ensures.empty, none, c.open-book.ensures.total)
          (board_new c.args.workers c.args.table c.args.plans.now needs fresh c.in_ok-core.ensures.table c.requires.empty own),
      c.in_ok-core.ensures.room,
      rw (c.in_ok-core.ensures.core, c.in_ok-rows.ensures)
          (rows_new c.args.workers size needs c.args.plans.now c.most_pages-room.result c.most_pages-room.ensures),
      c.in_ok-prefixes.ensures (whole_table g.L.Run.pages) g.L.Run.plans,
      (c.requires.pages, c.requires.plans),
    )

pub worker_rows-requires : goal.worker_rows-requires
worker_rows-requires g c = record {
  most = λ l p at. plan_fits c.args.plans.now c.most_pages-room.result c.most_pages-room.ensures l p
      (ap (λ (plans : List PlanView). slice_get plans l) c.requires.plans ∙ at);
}
