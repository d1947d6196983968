use Rattle.std.proofs.Common.{refl}
use Rattle.launch_plan.proofs.KeysByPlace.{count-past, further, here}
use Rattle.launch_plan.proofs.plan.LaunchPlan.key.Goals as goal

pub returns-in-Some : goal.returns-in-Some
returns-in-Some c =
    let inside = rw c.links-link-items.ensures.links at c.loop-link-test.true in
    let at = rw c.links-link-items.ensures.links at c.in-Some.ensures in
    here c.args.self.now.links c.loop-link.link-index _ c.loop-link.rest c.in-Some.key _ inside at c.loop-link.invariant.same

pub overflow_sub-rest : goal.overflow_sub-rest
overflow_sub-rest c = rw c.page_count-rest.ensures (count-past _ c.loop-link.rest c.in_default.ensures)

pub loop-link-preserved : goal.loop-link-preserved
loop-link-preserved c =
    let inside = rw c.links-link-items.ensures.links at c.loop-link-test.true in
    let none = rw c.links-link-items.ensures.links at c.in_default.ensures in
    let count = rw c.links-link-items.ensures.links at c.page_count-rest.ensures in
    rw count (further c.args.self.now.links c.loop-link.link-index _ c.loop-link.rest _ _ inside none refl c.loop-link.invariant)
