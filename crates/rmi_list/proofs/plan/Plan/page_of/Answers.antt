use Rattle.std.proofs.Common.{◌≡◌, ◌+◌, ◌-◌, ◌<◌, ◌≤◌, ◌∙◌, ap, arith, get_or, length, sym}
use Rattle.std.specs.Prelude.{option_and_then, slice_get}
use Rattle.list_model.specs.Entries.{page_of}
use Rattle.rmi_list.specs.inside.Spans.{entries_of_span}
use Rattle.rmi_list.proofs.CommandsOfSpans.{any-default, below-last, found-span}
use Rattle.rmi_list.proofs.plan.Plan.page_of.Goals as goal

pub span_at-at-requires-clause-last : goal.span_at-at-requires-clause-last
span_at-at-requires-clause-last c =
    let p = c.self.inside in
    rw c.deref.ensures.value (below-last p.params p.num_aux p.recs.items p.spans.items p.starts.items c.args.index c.self.invariant.starts (rw (← c.self.view_is) at c.requires))

pub returns : goal.returns
returns c =
    let p = c.self.inside in
    let at = c.span_at-at.result in
    let inside : at + 1 < length p.starts.items = rw c.deref.ensures.value at c.span_at-at.ensures.inside in
    let from : get_or p.starts.items at 0 ≤ c.args.index = rw c.deref.ensures.value at c.span_at-at.ensures.from in
    let below : c.args.index < get_or p.starts.items (at + 1) 0 = rw c.deref.ensures.value at c.span_at-at.ensures.below in
    let found = found-span p.params p.num_aux p.recs.items p.spans.items p.starts.items at c.args.index c.index.result.now c.self.invariant.starts inside from below in
    let start : c.index-2.result.now ≡ get_or p.starts.items at 0 = c.index-2.ensures ∙ any-default p.starts.items at c.index-2.result.now 0 (omega arith) in
    rw (← c.self.view_is)
    (c.page_in.ensures p.params p.num_aux p.recs.items
    ∙ ap (option_and_then page_of)
    (ap (λ k. slice_get (entries_of_span p.params p.num_aux p.recs.items k) (c.args.index - c.index-2.result.now)) c.index.ensures
    ∙ ap (λ n. slice_get (entries_of_span p.params p.num_aux p.recs.items (get_or p.spans.items at c.index.result.now)) (c.args.index - n)) start
    ∙ sym (found.2)))
