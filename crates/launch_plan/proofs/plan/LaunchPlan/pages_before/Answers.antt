use Rattle.std.proofs.Common.{◌<◌, length, arith}
use Rattle.launch_plan.proofs.LinkByLink.{keys-so-far, keys-within}
use Rattle.launch_plan.proofs.plan.LaunchPlan.pages_before.Goals as goal

pub overflow_add-pages : goal.overflow_add-pages
overflow_add-pages c =
    let inside : c.loop-at.at < length c.args.self.now.links = omega (arith, c.loop-at-test.true, c.requires) in
    let count = rw c.links.ensures.links at c.page_count.ensures in
    let within = keys-within c.args.self.now.links c.loop-at.at _ _ inside count in
    omega (arith, within, c.loop-at.invariant, c.pages-all.ensures, c.pages-all.type_inv)

pub loop-at-preserved : goal.loop-at-preserved
loop-at-preserved c =
    let inside : c.loop-at.at < length c.args.self.now.links = omega (arith, c.loop-at-test.true, c.requires) in
    let count = rw c.links.ensures.links at c.page_count.ensures in
    let more = keys-so-far c.args.self.now.links c.loop-at.at _ _ inside count in
    omega (arith, more, c.loop-at.invariant)
