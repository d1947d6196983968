use Rattle.std.proofs.Common.{◌≡◌, ◌*◌, arith}
use Rattle.rim_sha512.proofs.KnownBlocks.{sums_all}
use Rattle.sha_lanes.proofs.Pairs.{at_place512}
use Rattle.rim_sha512.proofs.schedule.all_sums.Goals as goal

pub schedule-init : goal.schedule-init
schedule-init c = (c.load-w.ensures, c.first_sums.ensures c.args.block.now c.load-w.ensures)

pub schedule-preserved : goal.schedule-preserved
schedule-preserved c =
    let b = c.args.block.now in
    let s1 = c.four_steps.ensures b (at_place512 b _ _ _ _ (omega arith) c.schedule.invariant) in
    let s2 = c.four_steps-in-schedule.ensures b s1 in
    at_place512 b _ _ _ _ (omega arith) s2

pub returns : goal.returns
returns c =
    let done : 16 * c.schedule.turn ≡ 80 = omega (arith, c.schedule.auto.turn-end (omega arith)) in
    sums_all _ c.args.block.now (rw done at c.schedule.invariant.1)
