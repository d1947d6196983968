-- What the program keeps while it tests steps. This project's choice.
use Rattle.std.specs.Prelude.{◌≡◌, ℕ, ◌<◌, List, length, Bool, false, slice_index_or, if◌then◌else◌}
use Rattle.rim_launch.specs.declared.step.Step.{Step}
use Rattle.rim_launch.specs.declared.conditions.StepTarget.{StepTarget}
use Rattle.rim_launch.specs.Steps.{times}

-- each number below `count` was named once where it has a mark, and never where it has none
abbrev pub AreMarks : StepTarget → ℕ → List Step → List Bool → Type 0
AreMarks p count steps named = (k : ℕ) → k < count → times p k steps ≡ (if slice_index_or named k false then 1 else 0)

-- the step has this place among the steps
abbrev pub IsNext : List Step → ℕ → Step → Type 0
IsNext steps at step = (at < length steps) × (step ≡ slice_index_or steps at step)
