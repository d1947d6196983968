use Rattle.std.proofs.Common.{◌+◌, ◌∙◌, sym, drop, get_or, arith}
use Rattle.rmm_monitor.proofs.KindsGivenInTurn.{all_owned-give, all_owned-next, give_all-end, give_all-next}
use Rattle.rmm_monitor.proofs.owners.Owners.give_all.Goals as goal

pub give-requires : goal.give-requires
give-requires c = (all_owned-next c.loop-granule.self c.args.granules.now c.loop-granule.granule-index c.loop-granule-test.true c.loop-granule.invariant.owned).0

pub loop-granule-preserved : goal.loop-granule-preserved
loop-granule-preserved c =
    let gs = c.args.granules.now in
    let i = c.loop-granule.granule-index in
    let next = all_owned-next c.loop-granule.self gs i c.loop-granule-test.true c.loop-granule.invariant.owned in
    rw c.give.ensures (record {
      owned = all_owned-give c.loop-granule.self (get_or gs i 0) c.args.kind (drop (i + 1) gs) next.1;
      left = sym (give_all-next c.loop-granule.self c.args.kind gs i c.loop-granule-test.true) ∙ c.loop-granule.invariant.left;
    })

pub returns : goal.returns
returns c =
    sym (give_all-end c.loop-granule.self c.args.kind c.args.granules.now c.loop-granule.granule-index (omega arith)) ∙ c.loop-granule.invariant.left
