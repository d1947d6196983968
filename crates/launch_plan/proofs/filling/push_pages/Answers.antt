use Rattle.std.proofs.Common.{arith}
use Rattle.std.proofs.lemmas.List.{length_push}
use Rattle.launch_plan.proofs.RowsLinkByLink.{added-more, missing-at}
use Rattle.launch_plan.proofs.filling.push_pages.Goals as goal

pub returns-in_default-clause-missing : goal.returns-in_default-clause-missing
returns-in_default-clause-missing c = λ _.
    let none = rw c.key_after.ensures at c.in_default.ensures in
    missing-at c.args.table.now c.args.key.now c.loop-number.number c.args.count c.loop-number-test.true none

pub loop-number-preserved : goal.loop-number-preserved
loop-number-preserved c =
    let at = rw c.key_after.ensures at c.in-Some.ensures in
    let longer = length_push c.loop-number.row.digests c.in-Some.digest in
    let count = c.loop-number.invariant.count in
    rw c.push.ensures (record {
      added = added-more c.args.table.now c.args.key.now c.loop-number.number c.args.row.now.digests c.loop-number.row.digests c.in-Some.digest at c.loop-number.invariant.added;
      count = omega (arith, longer, count);
      room = c.loop-number.invariant.room;
    })
