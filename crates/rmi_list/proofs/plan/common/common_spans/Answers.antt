use Rattle.std.proofs.Common.{◌≡◌, ℕ, arith, subst, take}
use Rattle.rmi_list.specs.inside.Common.{AreCommon}
use Rattle.rmi_list.proofs.SpansInCommon.{more-common}
use Rattle.rmi_list.proofs.plan.common.common_spans.Goals as goal

pub loop-at-preserved : goal.loop-at-preserved
loop-at-preserved c =
    more-common c.args.marks.now c.args.recs.now c.args.other_recs.now c.args.spans.now c.args.others.now c.loop-at.at _ _
    (omega (arith, c.loop-at-test.true, c.min-end.ensures)) (omega (arith, c.loop-at-test.true, c.min-end.ensures))
    (c.is_common.ensures c.if-not-is_common.false) c.loop-at.invariant

pub returns-clause-common : goal.returns-clause-common
returns-clause-common c =
    let done : c.loop-at.at ≡ c.min-end.result = omega (arith, c.loop-at-test.false, c.loop-at.auto.at-end) in
    subst (λ (n : ℕ). AreCommon c.args.marks.now c.args.recs.now (take n c.args.spans.now) c.args.other_recs.now (take n c.args.others.now)) done c.loop-at.invariant
