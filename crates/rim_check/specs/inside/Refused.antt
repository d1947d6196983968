-- What is found of a launch, and the remark that it adds. This project's choice.
use Rattle.std.specs.Prelude.{List, ℕ}
use Rattle.rim_manifest.specs.Launches.{NamedData}
use Rattle.rim_check.specs.Explained.{IsSaidOf}
use Rattle.shown_text.specs.declared.remark.Remark.{Remark}
use Rattle.shown_text.specs.Lines.{AddsAll, Saying}

-- there are the remarks that there were, and what is said of a launch
pub record AddsSaid (files : List (List ℕ)) (l : NamedData) (old new : List Remark) : Type 0 where
  pub own : List Saying
  pub are : IsSaidOf files l own
  pub adds : AddsAll own old new
