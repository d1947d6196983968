use Rattle.std.proofs.Common.{◌≡◌, ◌∙◌, List, Option, ap, arith, length, subst, sum, sym, true}
use Rattle.std.specs.List.{slice_get}
use Rattle.std.proofs.lemmas.List.{length-map}
use Rattle.rim_desc.specs.declared.measurement.Measurement.{Measurement}
use Rattle.page_jobs.specs.Page.{PageView, page_view}
use Rattle.launch_plan.specs.Links.{PlanView}
use Rattle.job_board.specs.Board.{AreValuesOf, BoardView}
use Rattle.job_core.specs.Jobs.{is_over}
use Rattle.job_board.proofs.EventsKeepBoards.{results_are}
use Rattle.job_board.proofs.FinishedBoards.{over_count, over_given, over_values}
use Rattle.job_board.proofs.state.BoardState.close.Goals as goal

pub copy_values-requires-clause-size : goal.copy_values-requires-clause-size
copy_values-requires-clause-size g c =
    let i = c.self.inside in
    let b : BoardView = record { core = i.core; history = i.history.items; table = i.table; plans = i.plans.now; results = i.results.items; book = i.book.total } in
    omega (arith, ap length c.self.invariant.4.1, c.requires.values, c.self.invariant.0.plans, results_are b c.self.invariant.0, ap length c.deref-2.ensures.value)

pub copy_values-requires-clause-all : goal.copy_values-requires-clause-all
copy_values-requires-clause-all g c =
    let i = c.self.inside in
    let b : BoardView = record { core = i.core; history = i.history.items; table = i.table; plans = i.plans.now; results = i.results.items; book = i.book.total } in
    let over : is_over b.core ≡ true = subst (λ (v : BoardView). is_over v.core ≡ true) (sym c.self.view_is) c.requires.over in
    λ l at. over_given b l c.self.invariant.0 over (ap (λ (os : List (Option Measurement)). slice_get os l) (sym c.deref-2.ensures.value) ∙ at)

pub returns-clause-sum : goal.returns-clause-sum
returns-clause-sum g c =
    let i = c.self.inside in
    let b : BoardView = record { core = i.core; history = i.history.items; table = i.table; plans = i.plans.now; results = i.results.items; book = i.book.total } in
    let over : is_over b.core ≡ true = subst (λ (v : BoardView). is_over v.core ≡ true) (sym c.self.view_is) c.requires.over in
    ap sum (c.write_counts.ensures ∙ c.deref.ensures.value) ∙ c.add_up.ensures.sum ∙ over_count b c.self.invariant.0 over ∙ ap length (sym c.pages.ensures.pages) ∙ length-map c.pages.result.now page_view

pub returns-clause-values : goal.returns-clause-values
returns-clause-values g c =
    let i = c.self.inside in
    let b : BoardView = record { core = i.core; history = i.history.items; table = i.table; plans = i.plans.now; results = i.results.items; book = i.book.total } in
    let over : is_over b.core ≡ true = subst (λ (v : BoardView). is_over v.core ≡ true) (sym c.self.view_is) c.requires.over in
    let own = over_values b c.copy_values.new.values c.self.invariant.0 over (c.copy_values.ensures ∙ c.deref-2.ensures.value) in
    subst (λ (pages : List PageView). AreValuesOf pages g.L.Run.plans c.copy_values.new.values) c.self.invariant.4.0
    (subst (λ (plans : List PlanView). AreValuesOf i.table.pages plans c.copy_values.new.values) c.self.invariant.4.1 own)
