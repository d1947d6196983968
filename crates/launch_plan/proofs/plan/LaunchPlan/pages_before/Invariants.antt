use Rattle.std.proofs.Common.{◌≡◌, length, take}
use Rattle.launch_plan.specs.Links.{keys_of}
use Rattle.launch_plan.proofs.plan.LaunchPlan.pages_before.Given as goal

abbrev pub invariant-loop-at : goal.invariant-loop-at
invariant-loop-at l = l.pages ≡ length (keys_of (take l.at l.self.links))
