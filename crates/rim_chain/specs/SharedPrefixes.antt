-- The prefixes that launches of a run have in common. This project's choice.
use Rattle.std.specs.Prelude.{◌≡◌, ℕ, ◌≤◌, true, List, length, slice_set, take, None, Some, IfSome}
use Rattle.std.specs.List.{All, slice_get}
use Rattle.rim_desc.specs.declared.measurement.Measurement.{Measurement}
use Rattle.page_jobs.specs.Table.{TableView}
use Rattle.launch_plan.specs.Prefixes.{prefix_of}
use Rattle.launch_plan.specs.Links.{PlanView, keys_of}
use Rattle.launch_plan.specs.Rows.{has_all, value_in}
use Rattle.launch_plan.specs.declared.prefix.Prefix.{Prefix}
use Rattle.launch_plan.specs.declared.prefix.Checkpoint.{Checkpoint}

-- what a prefix of a plan chains to, in a table that has the digests of all its pages
pub record IsValueOfPrefix (t : TableView) (p : PlanView) (n : ℕ) (v : Measurement) : Type 0 where
  pub within : n ≤ length p.links
  pub full : has_all t (keys_of (take n p.links)) ≡ true
  pub value : v.bytes ≡ value_in t (prefix_of n p)

-- each checkpoint that has a value has that of its prefix
abbrev pub HaveOwnValues : TableView → PlanView → List Checkpoint → Type 0
HaveOwnValues t p checkpoints = All (λ m. IfSome m.value (IsValueOfPrefix t p m.links)) checkpoints

-- the checkpoints of each launch have their own values
abbrev pub AreShared : TableView → List PlanView → List (List Checkpoint) → Type 0
AreShared t plans checkpoints = (l : ℕ) (p : PlanView) (own : List Checkpoint) → slice_get plans l ≡ Some p → slice_get checkpoints l ≡ Some own → HaveOwnValues t p own

-- a prefix is that of the launch of a number
abbrev pub IsOwnPrefix : TableView → List PlanView → ℕ → Prefix → Type 0
IsOwnPrefix t plans l f = (p : PlanView) → slice_get plans l ≡ Some p → IsValueOfPrefix t p f.links f.value

-- the value of a prefix was put at a checkpoint after its links that had none, and the others stay
pub record IsPutAmong (old : List Checkpoint) (f : Prefix) (new : List Checkpoint) : Type 0 where
  pub at : ℕ
  pub before : slice_get old at ≡ Some (record { links = f.links; value = None })
  pub after : new ≡ slice_set old at (record { links = f.links; value = Some f.value })

-- so it was put among the checkpoints of one launch, and those of the others stay
pub record IsKept (old : List (List Checkpoint)) (l : ℕ) (f : Prefix) (new : List (List Checkpoint)) : Type 0 where
  pub own : List Checkpoint
  pub kept : List Checkpoint
  pub before : slice_get old l ≡ Some own
  pub put : IsPutAmong own f kept
  pub after : new ≡ slice_set old l kept
