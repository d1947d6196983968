use Rattle.std.proofs.Common.{◌<◌, length, arith, refl}
use Rattle.launch_plan.specs.declared.link.Link.TheVariants as link
use Rattle.launch_plan.proofs.RowsLinkByLink.{part-missing, row-room}
use Rattle.launch_plan.proofs.plan.LaunchPlan.fill_row_on.Goals as goal

pub push_digests-requires-clause-room : goal.push_digests-requires-clause-room
push_digests-requires-clause-room c =
    let inside : c.loop-at.at < length c.args.self.now.links = rw c.links-at-end.ensures.links at c.loop-at-test.true in
    let room = row-room c.args.table.now c.args.self.now.links c.loop-at.at (link.Blocks 0 0 0) c.loop-at.row.digests _ inside refl c.loop-at.invariant.filled in
    rw c.links.ensures.links (omega (arith, room, c.loop-at.invariant.room, c.requires.room))

pub returns-then-not-push_digests-clause-missing : goal.returns-then-not-push_digests-clause-missing
returns-then-not-push_digests-clause-missing c = λ _.
    let inside : c.loop-at.at < length c.args.self.now.links = rw c.links-at-end.ensures.links at c.loop-at-test.true in
    let none = rw c.links.ensures.links at (c.push_digests.ensures.missing c.if-not-push_digests.true) in
    part-missing c.args.table.now c.args.self.now.links c.loop-at.at _ inside none
