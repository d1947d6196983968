use Rattle.std.proofs.Common.{◌≡◌, ◌++◌, drop}
use Rattle.std.specs.List.{flat_map}
use Rattle.launch_plan.specs.inside.Steps.{step_links}
use Rattle.launch_plan.proofs.reading.push_steps.Given as goal

abbrev pub invariant-loop-step : goal.invariant-loop-step
invariant-loop-step l =
    l.links.items ++ flat_map (step_links l.launch l.placed) (drop l.step-index l.steps)
    ≡ l.initial.links.items ++ flat_map (step_links l.launch l.placed) l.steps
