use Rattle.std.proofs.Common.{◌≡◌, ◌≤◌, length, take}
use Rattle.launch_plan.specs.Links.{keys_of}
use Rattle.launch_plan.proofs.plan.LaunchPlan.common_pages.Given as goal

abbrev pub invariant-loop-at : goal.invariant-loop-at
invariant-loop-at l = record {
  within : l.from ≤ length l.other.links;
  pages : keys_of (take l.at l.self.links) ≡ keys_of (take l.from l.other.links);
}
