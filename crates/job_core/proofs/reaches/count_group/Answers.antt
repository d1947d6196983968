use Rattle.std.proofs.Common.{◌<◌, ◌^◌, length, get_or, arith}
use Rattle.std.proofs.lemmas.Option.{slice_get-get_or}
use Rattle.job_core.specs.declared.reaches.Reach.{Reach}
use Rattle.job_core.proofs.ReachesAfterPuts.{one_counted, one_fits}
use Rattle.job_core.proofs.reaches.count_group.Goals as goal

abbrev none : Reach
none = record { launch = 0; count = 0 }

pub overflow_add-left : goal.overflow_add-left
overflow_add-left c = omega (arith, one_fits c.loop-reach.left c.args.left.now c.args.reaches.now c.loop-reach.reach-index none c.loop-reach-test.true c.loop-reach.invariant (2 ^ 64) c.requires.few)

pub bounds-left-reach-in-loop-reach : goal.bounds-left-reach-in-loop-reach
bounds-left-reach-in-loop-reach c =
    let at = slice_get-get_or c.args.reaches.now c.loop-reach.reach-index none c.loop-reach-test.true in
    omega (arith, c.requires.named c.loop-reach.reach-index (get_or c.args.reaches.now c.loop-reach.reach-index none) at, c.loop-reach.auto.left)

pub loop-reach-preserved : goal.loop-reach-preserved
loop-reach-preserved c =
    let at = slice_get-get_or c.args.reaches.now c.loop-reach.reach-index none c.loop-reach-test.true in
    let named : (get_or c.args.reaches.now c.loop-reach.reach-index none).launch < length c.loop-reach.left = omega (arith, c.requires.named c.loop-reach.reach-index (get_or c.args.reaches.now c.loop-reach.reach-index none) at, c.loop-reach.auto.left) in
    one_counted c.loop-reach.left c.args.left.now c.args.reaches.now c.loop-reach.reach-index none c.loop-reach-test.true named c.loop-reach.invariant
