use Rattle.std.proofs.Common.{◌≡◌, ◌++◌, take}
use Rattle.std.specs.List.{flat_map}
use Rattle.rim_pages.specs.inside.Ends.{step_ends}
use Rattle.rim_pages.proofs.measured.push_launch.Given as goal

abbrev pub invariant-loop-step : goal.invariant-loop-step
invariant-loop-step l = l.ends.items ≡ l.initial.ends.items ++ flat_map (step_ends l.accepted.named.now.launch l.accepted.placed)
    (take l.step-index l.step-items)
