use Rattle.rmi_list.proofs.SpansInCommon.{common-pages}
use Rattle.rmi_list.proofs.plan.common.is_common.Goals as goal

pub returns-then-not-is_measured : goal.returns-then-not-is_measured
returns-then-not-is_measured c = λ yes.
    common-pages c.args.marks.now c.args.recs.now c.args.others.now c.args.a.now c.args.b.now c.in-Pages.granule c.in-Pages.ipa c.in-Pages.item c.in-Pages.known c.in-Pages.page c.in-Pages.count
    (c.is_same_span.ensures.0 c.if-not-is_same_span.false) c.in-Pages.is (λ measured. absurd (cc))

pub returns-else-not-is_measured : goal.returns-else-not-is_measured
returns-else-not-is_measured c = λ yes.
    common-pages c.args.marks.now c.args.recs.now c.args.others.now c.args.a.now c.args.b.now c.in-Pages.granule c.in-Pages.ipa c.in-Pages.item c.in-Pages.known c.in-Pages.page c.in-Pages.count
    (c.is_same_span.ensures.0 c.if-not-is_same_span.false) c.in-Pages.is (λ measured. c.is_marked.ensures yes)
