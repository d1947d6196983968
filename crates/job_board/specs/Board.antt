-- What contracts see of a board, and what each call makes of it. This project's choice.
use Rattle.std.specs.Prelude.{◌≡◌, ℕ, false, List, [], ◌∷◌, ◌++◌, length, map, Option, Some, is_some, Ok, slice_get, slice_index_or}
use Rattle.std.specs.List.{All, Contains}
use Rattle.rim_desc.specs.declared.measurement.Measurement.{Measurement}
use Rattle.page_jobs.specs.Page.{PageView}
use Rattle.page_jobs.specs.Table.{IsTable, TableView, slot_of}
use Rattle.page_jobs.specs.declared.page.PageKey.{PageKey}
use Rattle.rim_chain.specs.Jobs.{JobView}
use Rattle.launch_plan.specs.Links.{PlanView, keys_of}
use Rattle.launch_plan.specs.Rows.{IsFull, IsRowOf, value_in}
use Rattle.job_core.specs.declared.job.JobId.TheVariants.{Page, Launch}
use Rattle.job_core.specs.declared.job.JobState.TheVariants.{Held}
use Rattle.job_core.specs.declared.job.Event.{Event}
use Rattle.job_core.specs.Jobs.{CoreState, IsCore, is_done, is_out, pages_done, state_of}
use Rattle.job_core.specs.Step.{core_step}
use Rattle.job_board.specs.History.{IsHistory}

-- the core and its history, the table, the plans, the values of the launches that are done, and the ledger's book
pub record BoardView : Type 0 where
  pub core : CoreState
  pub history : List Event
  pub table : TableView
  pub plans : List PlanView
  pub results : List (Option Measurement)
  pub book : ℕ

-- a key's page has a slot in the table, and is among the pages that are needed
abbrev pub IsNeeded : TableView → List ℕ → PageKey → Type 0
IsNeeded t needed key = (j : ℕ) × (slot_of t.pages key ≡ Some j) × Contains needed j

-- a page that is needed is the page of one of these keys
abbrev pub IsOwnPage : TableView → List PageKey → ℕ → Type 0
IsOwnPage t keys j = (key : PageKey) × Contains keys key × (slot_of t.pages key ≡ Some j)

-- each launch needs just the pages of its own plan
pub record NeedsOwn (t : TableView) (plans : List PlanView) (needs : List (List ℕ)) : Type 0 where
  pub size : length needs ≡ length plans
  pub all : (l : ℕ) (p : PlanView) → slice_get plans l ≡ Some p → All (IsNeeded t (slice_index_or needs l [])) (keys_of p.links)
  pub only : (l : ℕ) (p : PlanView) → slice_get plans l ≡ Some p → All (IsOwnPage t (keys_of p.links)) (slice_index_or needs l [])

-- The core is what its history leaves; each filled slot of the table has the digest of its own page, just the slots of
-- pages that are done are filled, and as many are done as the book says; each launch needs all pages of its plan; and just the launches that are done have a value, which is what
-- their own plan chains to.
pub record IsBoard (b : BoardView) : Type 0 where
  pub core : IsCore b.core
  pub history : IsHistory b.core b.history
  pub table : IsTable b.table
  pub slots : length b.table.pages ≡ length b.core.pages
  pub filled : map is_some b.table.digests ≡ map is_done b.core.pages
  pub booked : pages_done b.core ≡ b.book
  pub plans : length b.plans ≡ length b.core.launches
  pub needs : (l : ℕ) (p : PlanView) → slice_get b.plans l ≡ Some p → All (IsNeeded b.table (slice_index_or b.core.needs l [])) (keys_of p.links)
  pub given : map is_some b.results ≡ map is_done b.core.launches
  pub own : (l : ℕ) (p : PlanView) (m : Measurement) → slice_get b.plans l ≡ Some p → slice_get b.results l ≡ Some (Some m) → m.bytes ≡ value_in b.table p

-- a board has the pages and the plans of its run
abbrev pub IsOfRun : List PageView → List PlanView → BoardView → Type 0
IsOfRun pages plans b = (b.table.pages ≡ pages) × (b.plans ≡ plans)

-- the values are what the plans chain to, with the digests of all these pages
pub record AreValuesOf (pages : List PageView) (plans : List PlanView) (values : List Measurement) : Type 0 where
  pub table : TableView
  pub own : IsTable table
  pub same : table.pages ≡ pages
  pub full : IsFull table
  pub each : map (λ m. m.bytes) values ≡ map (value_in table) plans

-- one event more
pub record Adds (old : BoardView) (e : Event) (new : BoardView) : Type 0 where
  pub step : core_step old.core e ≡ Ok new.core
  pub history : new.history ≡ old.history ++ e ∷ []

-- all but core and history is as before
pub record SameRest (old new : BoardView) : Type 0 where
  pub table : new.table ≡ old.table
  pub plans : new.plans ≡ old.plans
  pub results : new.results ≡ old.results
  pub book : new.book ≡ old.book

-- the worker holds this page's job
abbrev pub CanPutPage : BoardView → ℕ → ℕ → PageView → Type 0
CanPutPage b w j p = (is_out b.core w ≡ false) × (state_of b.core (Page j) ≡ Some (Held w)) × (slice_get b.table.pages j ≡ Some p)

-- the worker holds this launch's job, and number, plan and row are the job's
abbrev pub CanPutLaunch : BoardView → ℕ → ℕ → PlanView → List Measurement → Type 0
CanPutLaunch b w l p row = (is_out b.core w ≡ false) × (state_of b.core (Launch l) ≡ Some (Held w)) × (slice_get b.plans l ≡ Some p) × IsRowOf b.table (keys_of p.links) row

abbrev pub CanPutJob : BoardView → ℕ → JobView → Type 0
CanPutJob b w job = CanPutLaunch b w job.number job.plan job.row.digests
