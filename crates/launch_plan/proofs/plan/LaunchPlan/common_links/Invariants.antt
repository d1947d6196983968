use Rattle.std.proofs.Common.{◌≡◌, take}
use Rattle.launch_plan.proofs.plan.LaunchPlan.common_links.Given as goal

abbrev pub invariant-loop-at : goal.invariant-loop-at
invariant-loop-at l = take l.at l.self.links ≡ take l.at l.other.links
