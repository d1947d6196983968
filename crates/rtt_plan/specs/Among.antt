-- What is among some acts, beside tables. This project's choice.
use Rattle.std.specs.Prelude.{ℕ, List, [], ◌∷◌, ◌++◌}
use Rattle.rmm_model.specs.Blocks.{granules}
use Rattle.rtt_plan.specs.declared.act.Act.{Act}
use Rattle.rtt_plan.specs.declared.act.Act.TheVariants as act
use Rattle.rtt_plan.specs.declared.run.Run.{Run}

-- the runs that some acts set
unfoldable pub runs_among : List Act → List Run
runs_among [] = []
runs_among (act.Table base level ∷ acts) = runs_among acts
runs_among (act.Run base top level ∷ acts) = record { base = base; top = top; level = level } ∷ runs_among acts
runs_among (act.Pages base count ∷ acts) = runs_among acts

-- the pages that some acts give data
unfoldable pub pages_among : List Act → List ℕ
pages_among [] = []
pages_among (act.Table base level ∷ acts) = pages_among acts
pages_among (act.Run base top level ∷ acts) = pages_among acts
pages_among (act.Pages base count ∷ acts) = granules count base ++ pages_among acts
