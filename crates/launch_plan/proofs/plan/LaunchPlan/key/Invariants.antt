use Rattle.std.specs.List.{slice_get}
use Rattle.launch_plan.specs.Links.{keys_of}
use Rattle.launch_plan.proofs.KeysByPlace.{IsFurther}
use Rattle.launch_plan.proofs.plan.LaunchPlan.key.Given as goal

abbrev pub invariant-loop-link : goal.invariant-loop-link
invariant-loop-link l = IsFurther l.self.links l.link-index l.rest (slice_get (keys_of l.self.links) l.index)
