use Rattle.std.specs.Prelude.{vec_capacity}
use Rattle.job_core.proofs.LineOfReady.{begun_more, begun_skip}
use Rattle.job_core.proofs.line.first_ready.Goals as goal
use Rattle.job_core.proofs.line.first_ready.Goals.{then-left-launch-eq0, else-left-launch-eq0}

pub loop-launch-preserved : goal.loop-launch-preserved
loop-launch-preserved c = elim c.if-left-launch-eq0.branch [
  | then-left-launch-eq0 w ↦ rw (w.ready-is, w.push_reserved.ensures.items, w.push_reserved.ensures.capacity) (begun_more c.args.left.now c.loop-launch.ready.items c.loop-launch.launch (vec_capacity c.loop-launch.ready) c.loop-launch-test.true w.if-left-launch-eq0.true c.loop-launch.invariant)
  | else-left-launch-eq0 w ↦ rw w.ready-is (begun_skip c.args.left.now c.loop-launch.ready.items c.loop-launch.launch (vec_capacity c.loop-launch.ready) c.loop-launch-test.true w.if-left-launch-eq0.false c.loop-launch.invariant)
]
