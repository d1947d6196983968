use Rattle.std.proofs.Common.{◌≡◌, ◌*◌, arith}
use Rattle.rim_sha256.proofs.KnownBlocks.{sums_all}
use Rattle.sha_lanes.proofs.Pairs.{at_place256}
use Rattle.rim_sha256.proofs.one.schedule.all_sums.Goals as goal

pub schedule-init : goal.schedule-init
schedule-init c = (
  (c.load-w.ensures.first, c.first_sums.ensures.first c.args.a.now c.load-w.ensures.first),
  (c.load-w.ensures.second, c.first_sums.ensures.second c.args.b.now c.load-w.ensures.second),
)

pub schedule-preserved : goal.schedule-preserved
schedule-preserved c = (
  at_place256 0 1 c.args.a.now _ _ _ _ (omega arith)
      (c.four_steps-in-schedule.ensures.first c.args.a.now
      (c.four_steps.ensures.first c.args.a.now (at_place256 0 1 c.args.a.now _ _ _ _ (omega arith) c.schedule.invariant.0))),
  at_place256 2 3 c.args.b.now _ _ _ _ (omega arith)
      (c.four_steps-in-schedule.ensures.second c.args.b.now
      (c.four_steps.ensures.second c.args.b.now (at_place256 2 3 c.args.b.now _ _ _ _ (omega arith) c.schedule.invariant.1))),
)

pub returns : goal.returns
returns c =
    let done : 16 * c.schedule.turn ≡ 64 = omega (arith, c.schedule.auto.turn-end (omega arith)) in
    record {
      first = sums_all _ c.args.a.now (rw done at c.schedule.invariant.0.1);
      second = sums_all _ c.args.b.now (rw done at c.schedule.invariant.1.1);
    }
