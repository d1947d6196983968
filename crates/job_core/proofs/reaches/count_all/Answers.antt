use Rattle.std.proofs.Common.{◌^◌}
use Rattle.job_core.proofs.ReachesAfterPuts.{all_fit}
use Rattle.job_core.proofs.reaches.count_all.Goals as goal

pub count_group-requires-clause-few : goal.count_group-requires-clause-few
count_group-requires-clause-few c = rw c.deref.ensures.value (all_fit c.loop-group.left c.args.groups.now c.loop-group.group-index c.group-item.result c.loop-group-test.true c.group-item.is c.loop-group.invariant (2 ^ 64) c.requires.groups.1.few)
