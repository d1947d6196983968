use Rattle.std.proofs.Common.{◌≤◌, length, take}
use Rattle.std.specs.List.{All}
use Rattle.launch_plan.specs.Links.{keys_of}
use Rattle.launch_plan.proofs.filling.most_pages.Given as goal

abbrev pub invariant-loop-plan : goal.invariant-loop-plan
invariant-loop-plan l = All (λ v. length (keys_of v.links) ≤ l.most) (take l.plan-index l.plans)
