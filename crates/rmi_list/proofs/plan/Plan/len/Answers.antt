use Rattle.std.proofs.Common.{◌≡◌, ◌+◌, ◌<◌, ◌∙◌, ap, arith, get_or, length}
use Rattle.rmi_list.proofs.CommandsOfSpans.{any-default, last-start}
use Rattle.rmi_list.proofs.plan.Plan.len.Goals as goal

pub returns : goal.returns
returns c =
    let p = c.self.inside in
    let count : length p.starts.items ≡ length p.spans.items + 1 = c.self.invariant.starts.count in
    let at : c.len.result ≡ length p.spans.items = c.len.ensures ∙ p.spans.ok.0 in
    let inside : length p.spans.items < length p.starts.items = omega arith in
    rw (← c.self.view_is)
    (c.index.ensures ∙ ap (λ n. get_or p.starts.items n c.index.result.now) at ∙ any-default p.starts.items (length p.spans.items) c.index.result.now 0 inside
    ∙ last-start p.params p.num_aux p.recs.items p.spans.items p.starts.items c.self.invariant.starts)
