use Rattle.std.proofs.Common.{◌≡◌, ◌∙◌, ℕ, List, Ok, Some, ap, arith, subst, sym}
use Rattle.std.specs.List.{slice_get}
use Rattle.rim_desc.specs.declared.measurement.Measurement.{Measurement}
use Rattle.std.proofs.lemmas.Option.{same_Some, slice_get_within}
use Rattle.page_jobs.specs.Page.{PageView}
use Rattle.rim_chain.specs.Jobs.{JobView, RimView}
use Rattle.launch_plan.specs.Links.{PlanView, chain_of, keys_of}
use Rattle.launch_plan.specs.Rows.{IsRowOf, value_in}
use Rattle.job_core.specs.declared.job.Event.TheVariants.{Put}
use Rattle.job_core.specs.declared.job.JobId.TheVariants.{Launch}
use Rattle.job_core.specs.declared.job.JobState.TheVariants.{Held}
use Rattle.job_board.specs.Board.{BoardView, CanPutLaunch, IsBoard}
use Rattle.job_core.specs.Jobs.{CoreState}
use Rattle.job_core.specs.Step.{core_step}
use Rattle.job_tasks.specs.Tasks.{IsOwnRow, IsRoomy}
use Rattle.page_jobs.specs.Row.{RowView}
use Rattle.job_board.proofs.EventsKeepBoards.{board_put_launch, held_filled, results_are, value_is}
use Rattle.job_core.proofs.WhatStepsChange.{put_says}
use Rattle.job_board.proofs.RowsOfWorkers.{rows_put_launch}
use Rattle.job_tasks.proofs.RowsOfOwnPages.{row_of_own}
use Rattle.job_board.proofs.state.BoardState.put_launch.Goals as goal

-- what is known of a launch that was put
record IsPut (b : BoardView) (w : ℕ) (job : JobView) : Type 0 where
  held : slice_get b.core.launches job.number ≡ Some (Held w)
  plan : slice_get b.plans job.number ≡ Some job.plan
  row : IsRowOf b.table (keys_of job.plan.links) job.row.digests

is_put : (b : BoardView) (t : CoreState) (w : ℕ) (job : JobView) → IsBoard b → core_step b.core (Put w (Launch job.number)) ≡ Ok t
    → slice_get b.plans job.number ≡ Some job.plan → IsOwnRow b.table.pages (keys_of job.plan.links) job.row.digests → IsPut b w job
is_put b t w job board step plan own =
    let held = (put_says b.core t w (Launch job.number) step).1 in
    record {
      held = held;
      plan = plan;
      row = row_of_own b.table board.table (keys_of job.plan.links) job.row.digests own (held_filled b w job.number job.plan board plan held);
    }

pub index_mut-requires : goal.index_mut-requires
index_mut-requires g c =
    let i = c.self.inside in
    let b : BoardView = record { core = i.core; history = i.history.items; table = i.table; plans = i.plans.now; results = i.results.items; book = i.book.total } in
    let step : core_step i.core (Put c.args.worker (Launch c.number-number.result)) ≡ Ok c.record.new.core = c.in-Ok.ensures.step in
    let within = slice_get_within i.core.launches c.number-number.result (Held c.args.worker) (put_says i.core c.record.new.core c.args.worker (Launch c.number-number.result) step).1 in
    omega (arith, within, results_are b c.self.invariant.0)

pub invariant_of-self-2 : goal.invariant_of-self-2
invariant_of-self-2 g c =
    let i = c.self.inside in
    let n = c.number-number.result in
    let job = c.args.launch.job in
    let b : BoardView = record { core = i.core; history = i.history.items; table = i.table; plans = i.plans.now; results = i.results.items; book = i.book.total } in
    let step : core_step i.core (Put c.args.worker (Launch n)) ≡ Ok c.record.new.core = c.in-Ok.ensures.step in
    let number : n ≡ job.number = c.number-number.ensures in
    let plan : slice_get i.plans.now job.number ≡ Some job.plan = ap (λ (plans : List PlanView). slice_get plans job.number) c.self.invariant.4.1 ∙ c.into_rim-rim.ensures.own.0 in
    let own : IsOwnRow i.table.pages (keys_of job.plan.links) job.row.digests = subst (λ (pages : List PageView). IsOwnRow pages (keys_of job.plan.links) job.row.digests) (sym c.self.invariant.4.0) c.into_rim-rim.ensures.own.1 in
    let put = is_put b c.record.new.core c.args.worker job c.self.invariant.0 (rw (← number) step) plan own in
    let at : slice_get i.plans.now n ≡ Some job.plan = ap (slice_get i.plans.now) number ∙ plan in
    let value : c.value.result.bytes ≡ value_in i.table job.plan =
    c.value.ensures.own ∙ (ap (λ (r : RimView). chain_of r.job.plan r.job.row.digests) c.into_rim-rim.ensures.rim ∙ value_is i.table job.plan job.row.digests put.row) in (
      rw c.in-Ok.ensures.history (board_put_launch b c.record.new.core c.args.worker n job.plan c.value.result c.self.invariant.0 step at value),
      c.record.ensures.room,
      rw c.keep_row.ensures (rows_put_launch i.core c.record.new.core i.plans.now i.rows.items i.room c.args.worker n c.self.invariant.2 step),
      c.self.invariant.3,
      c.self.invariant.4,
    )

pub plan_at-requires : goal.plan_at-requires
plan_at-requires g c =
    let i = c.self.inside in
    let step : core_step i.core (Put c.args.worker (Launch c.number-number.result)) ≡ Ok c.record.new.core = c.in-Ok.ensures.step in
    let within = slice_get_within i.core.launches c.number-number.result (Held c.args.worker) (put_says i.core c.record.new.core c.args.worker (Launch c.number-number.result) step).1 in
    omega (arith, within, c.self.invariant.0.plans)

-- the plan of the launch's number is that of the job
plan_same : (plans run : List PlanView) (n : ℕ) (job : JobView) (p : PlanView) → plans ≡ run → slice_get run job.number ≡ Some job.plan → n ≡ job.number → slice_get plans n ≡ Some p → job.plan ≡ p
plan_same plans run n job p same own number at =
    same_Some job.plan p (sym own ∙ (ap (slice_get run) (sym number) ∙ (ap (λ (ps : List PlanView). slice_get ps n) (sym same) ∙ at)))

pub of_launch-requires-clause-own : goal.of_launch-requires-clause-own
of_launch-requires-clause-own g c =
    let job = c.args.launch.job in
    let row : c.into_row.result ≡ job.row = c.into_row.ensures ∙ ap (λ (r : RimView). r.job.row) c.into_rim-rim.ensures.rim in
    let plan : job.plan ≡ c.plan_at.result.now =
    plan_same c.self.inside.plans.now g.L.Run.plans c.number-number.result job c.plan_at.result.now c.self.invariant.4.1 c.into_rim-rim.ensures.own.0 c.number-number.ensures c.plan_at.ensures in
    subst (λ (r : RowView). IsOwnRow g.L.Run.pages (keys_of c.plan_at.result.now.links) r.digests) (sym row)
    (subst (λ (p : PlanView). IsOwnRow g.L.Run.pages (keys_of p.links) job.row.digests) plan c.into_rim-rim.ensures.own.1)

pub of_launch-requires-clause-roomy : goal.of_launch-requires-clause-roomy
of_launch-requires-clause-roomy g c =
    subst (λ (r : RowView). IsRoomy g.L.Run.plans r) (sym (c.into_row.ensures ∙ ap (λ (r : RimView). r.job.row) c.into_rim-rim.ensures.rim)) c.into_rim-rim.ensures.own.2

pub returns-clause-can : goal.returns-clause-can
returns-clause-can g c =
    let i = c.self.inside in
    let n = c.number-number.result in
    let job = c.args.launch.job in
    let b : BoardView = record { core = i.core; history = i.history.items; table = i.table; plans = i.plans.now; results = i.results.items; book = i.book.total } in
    let step : core_step i.core (Put c.args.worker (Launch n)) ≡ Ok c.record.new.core = c.in-Ok.ensures.step in
    let number : n ≡ job.number = c.number-number.ensures in
    let plan : slice_get i.plans.now job.number ≡ Some job.plan = ap (λ (plans : List PlanView). slice_get plans job.number) c.self.invariant.4.1 ∙ c.into_rim-rim.ensures.own.0 in
    let own : IsOwnRow i.table.pages (keys_of job.plan.links) job.row.digests = subst (λ (pages : List PageView). IsOwnRow pages (keys_of job.plan.links) job.row.digests) (sym c.self.invariant.4.0) c.into_rim-rim.ensures.own.1 in
    let put = is_put b c.record.new.core c.args.worker job c.self.invariant.0 (rw (← number) step) plan own in
    let was = put_says i.core c.record.new.core c.args.worker (Launch n) step in
    subst (λ (v : BoardView). CanPutLaunch v c.args.worker job.number job.plan job.row.digests) c.self.view_is (was.0, put.held, put.plan, put.row)

pub returns-clause-own : goal.returns-clause-own
returns-clause-own g c =
    let job = c.args.launch.job in
    let can = returns-clause-can g c in
    ap (λ (m : Measurement). m.bytes) (sym (c.value.ensures.value ∙ ap (λ (r : RimView). r.value) c.into_rim-rim.ensures.rim))
    ∙ (c.value.ensures.own
    ∙ (ap (λ (r : RimView). chain_of r.job.plan r.job.row.digests) c.into_rim-rim.ensures.rim ∙ value_is c.args.self.now.table job.plan job.row.digests can.3))
