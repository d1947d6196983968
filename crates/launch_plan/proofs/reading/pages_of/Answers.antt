use Rattle.std.proofs.Common.{arith}
use Rattle.launch_plan.proofs.LinkByLink.{keys-left}
use Rattle.launch_plan.proofs.reading.pages_of.Goals as goal

pub overflow_add-pages : goal.overflow_add-pages
overflow_add-pages c =
    let left = keys-left c.args.links.now c.loop-link.link-index _ _ c.loop-link-test.true c.page_count.ensures in
    omega (arith, left)

pub loop-link-preserved : goal.loop-link-preserved
loop-link-preserved c =
    let left = keys-left c.args.links.now c.loop-link.link-index _ _ c.loop-link-test.true c.page_count.ensures in
    omega (arith, left)
