-- The jobs of a run's own pages and launches. This project's choice.
use Rattle.std.specs.Prelude.{◌≡◌, ◌≤◌, ℕ, List, length, map, Option, Some, option_and_then, option_map, slice_get}
use Rattle.rim_desc.specs.declared.measurement.Measurement.{Measurement}
use Rattle.page_jobs.specs.Page.{PageView, digest_of}
use Rattle.page_jobs.specs.Row.{RowView}
use Rattle.page_jobs.specs.Table.{TableView, slot_of}
use Rattle.page_jobs.specs.declared.page.PageKey.{PageKey}
use Rattle.rim_chain.specs.Jobs.{JobView}
use Rattle.launch_plan.specs.Links.{PlanView, chain_of, keys_of}

-- the digest of the page that has a key, where one of these pages has it
abbrev pub digest_among : List PageView → PageKey → Option (List ℕ)
digest_among pages key = option_map digest_of (option_and_then (slice_get pages) (slot_of pages key))

-- the digests are those of the pages that have the keys, in order
abbrev pub IsOwnRow : List PageView → List PageKey → List Measurement → Type 0
IsOwnRow pages keys digests = map (digest_among pages) keys ≡ map (λ d. Some d.bytes) digests

-- these pages' table, with the digest of each
abbrev pub whole_table : List PageView → TableView
whole_table pages = record { pages = pages; digests = map (λ p. Some (record { bytes = digest_of p })) pages }

-- a page that is to be hashed, and its number among those of its run
pub record PageTaskView : Type 0 where
  pub number : ℕ
  pub page : PageView

-- the same with the page's digest
pub record HashedView : Type 0 where
  pub number : ℕ
  pub page : PageView
  pub digest : Measurement

-- a row has room for the pages of any of these plans
abbrev pub IsRoomy : List PlanView → RowView → Type 0
IsRoomy plans row = (l : ℕ) (p : PlanView) → slice_get plans l ≡ Some p → length (keys_of p.links) ≤ row.room

-- a launch's number, plan and row belong together, and to a run with these pages and plans; the row may be filled for any other
abbrev pub IsOwnLaunch : List PageView → List PlanView → JobView → Type 0
IsOwnLaunch pages plans job = (slice_get plans job.number ≡ Some job.plan) × IsOwnRow pages (keys_of job.plan.links) job.row.digests × IsRoomy plans job.row

-- what the launch of a number chains to, with the digests of its own pages
abbrev pub IsOwnValue : List PageView → List PlanView → ℕ → Measurement → Type 0
IsOwnValue pages plans l value = (p : PlanView) (digests : List Measurement) → slice_get plans l ≡ Some p
    → IsOwnRow pages (keys_of p.links) digests → value.bytes ≡ chain_of p digests
