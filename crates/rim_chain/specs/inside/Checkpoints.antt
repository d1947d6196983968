-- Checkpoints before any launch is chained, and launches with the same prefix. This project's choice.
use Rattle.std.specs.Prelude.{◌≡◌, ℕ, List, None, Some}
use Rattle.std.specs.List.{All, slice_get}
use Rattle.launch_plan.specs.Prefixes.{HavePrefix}
use Rattle.launch_plan.specs.Links.{PlanView}
use Rattle.launch_plan.specs.declared.prefix.Checkpoint.{Checkpoint}

abbrev pub HaveNoValues : List Checkpoint → Type 0
HaveNoValues checkpoints = All (λ m. m.value ≡ None) checkpoints

-- the plans of two numbers have the same prefix of n links
pub record BothHavePrefix (plans : List PlanView) (a b n : ℕ) : Type 0 where
  pub first : PlanView
  pub second : PlanView
  pub at_first : slice_get plans a ≡ Some first
  pub at_second : slice_get plans b ≡ Some second
  pub same : HavePrefix n first second
