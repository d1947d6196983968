use Rattle.std.proofs.Common.{◌≡◌, ◌∙◌, List, Ok, Some, ap, arith, false, refl, subst, sym}
use Rattle.std.specs.List.{slice_get}
use Rattle.std.proofs.lemmas.Option.{same_Some, slice_get_within}
use Rattle.launch_plan.specs.Links.{PlanView}
use Rattle.job_core.specs.declared.job.Event.TheVariants.{Take}
use Rattle.job_core.specs.declared.job.JobId.TheVariants.{Launch}
use Rattle.job_core.specs.declared.job.JobState.TheVariants.{Free}
use Rattle.job_board.specs.Board.{BoardView}
use Rattle.job_core.specs.Step.{core_step}
use Rattle.job_board.proofs.EventsKeepBoards.{board_other, ready_filled}
use Rattle.job_core.proofs.WhatStepsChange.{take_says}
use Rattle.job_board.proofs.RowsOfWorkers.{row_within, rows_take_launch}
use Rattle.job_core.proofs.NotesOfWorkers.{held_counts}
use Rattle.job_core.specs.Jobs.{held_count, is_out}
use Rattle.job_board.proofs.state.BoardState.give_launch.Goals as goal

pub plan_at-plan-requires : goal.plan_at-plan-requires
plan_at-plan-requires g c =
    let i = c.self.inside in
    let step : core_step i.core (Take c.args.worker (Launch c.args.number)) ≡ Ok c.record.new.core = c.in-Ok.ensures.step in
    let within = slice_get_within i.core.launches c.args.number Free (take_says i.core c.record.new.core c.args.worker (Launch c.args.number) step).0 in
    omega (arith, within, c.self.invariant.0.plans)

pub take_row-requires : goal.take_row-requires
take_row-requires g c =
    let i = c.self.inside in
    let known : is_out i.core c.args.worker ≡ false = subst (λ (v : BoardView). is_out v.core c.args.worker ≡ false) (sym c.self.view_is) c.requires.known in
    row_within i.core i.plans.now i.rows.items i.room c.args.worker c.self.invariant.2 known

pub unreachable-requires-in_default-take_row : goal.unreachable-requires-in_default-take_row
unreachable-requires-in_default-take_row g c =
    let i = c.self.inside in
    let known : is_out i.core c.args.worker ≡ false = subst (λ (v : BoardView). is_out v.core c.args.worker ≡ false) (sym c.self.view_is) c.requires.known in
    let idle : held_count i.core c.args.worker ≡ 0 = subst (λ (v : BoardView). held_count v.core c.args.worker ≡ 0) (sym c.self.view_is) c.requires.idle in
    let own = c.self.invariant.2.there c.args.worker known (λ l at. let one = held_counts c.args.worker i.core.launches l at in absurd (omega (arith, one, idle))) in
    c.in_default-take_row.not-Some tt (same_Some c.take_row.result (Some tt) (sym c.take_row.ensures.row ∙ own))

pub filled_for-row-requires-clause-pages : goal.filled_for-row-requires-clause-pages
filled_for-row-requires-clause-pages g c = c.self.invariant.4.0

pub filled_for-row-requires-clause-plan : goal.filled_for-row-requires-clause-plan
filled_for-row-requires-clause-plan g c =
    (c.args.number, ap (λ (plans : List PlanView). slice_get plans c.args.number) (sym c.self.invariant.4.1) ∙ c.plan_at-plan.ensures)

pub filled_for-row-requires-clause-all : goal.filled_for-row-requires-clause-all
filled_for-row-requires-clause-all g c =
    let i = c.self.inside in
    let b : BoardView = record { core = i.core; history = i.history.items; table = i.table; plans = i.plans.now; results = i.results.items; book = i.book.total } in
    let step : core_step i.core (Take c.args.worker (Launch c.args.number)) ≡ Ok c.record.new.core = c.in-Ok.ensures.step in
    ready_filled b c.args.number c.plan_at-plan.result.now c.self.invariant.0 c.plan_at-plan.ensures (take_says i.core c.record.new.core c.args.worker (Launch c.args.number) step).1

pub invariant_of-self : goal.invariant_of-self
invariant_of-self g c =
    let i = c.self.inside in
    let b : BoardView = record { core = i.core; history = i.history.items; table = i.table; plans = i.plans.now; results = i.results.items; book = i.book.total } in
    let step : core_step i.core (Take c.args.worker (Launch c.args.number)) ≡ Ok c.record.new.core = c.in-Ok.ensures.step in (
      rw c.in-Ok.ensures.history (board_other b c.record.new.core (Take c.args.worker (Launch c.args.number)) refl c.self.invariant.0 step),
      c.record.ensures.room,
      rw c.take_row.ensures.rest (rows_take_launch i.core c.record.new.core i.plans.now i.rows.items i.room c.args.worker c.args.number c.self.invariant.2 step),
      c.self.invariant.3,
      c.self.invariant.4,
    )
