use Rattle.std.proofs.Common.{◌≡◌, ℕ, ◌+◌, ◌≤◌, ◌∙◌, ap, arith, get_or, length, subst, take}
use Rattle.rim_desc.specs.declared.realm.RealmParams.{RealmParams}
use Rattle.list_model.specs.Entries.{commands_of}
use Rattle.rmi_list.specs.inside.Common.{AreCommon}
use Rattle.rmi_list.specs.inside.Spans.{entries_of}
use Rattle.rmi_list.proofs.CommandsOfSpans.{any-default}
use Rattle.rmi_list.proofs.SpansInCommon.{other-length, own-length, same-first}
use Rattle.rmi_list.proofs.plan.Plan.common_commands.Goals as goal

pub returns-clause-own : goal.returns-clause-own
returns-clause-own c =
    let p = c.self.inside in
    let i : ℕ = c.common_spans-spans.result in
    let within : i ≤ length p.spans.items = rw c.deref-2.ensures.value at c.common_spans-spans.ensures.own in
    let count : length p.starts.items ≡ length p.spans.items + 1 = c.self.invariant.starts.count in
    let start : c.index.result.now ≡ get_or p.starts.items i 0 = c.index.ensures ∙ any-default p.starts.items i c.index.result.now 0 (omega (arith, within, count)) in
    rw (← c.self.view_is) (own-length p.params p.num_aux p.recs.items p.spans.items p.starts.items i c.index.result.now c.self.invariant.starts within start)

pub returns-clause-others : goal.returns-clause-others
returns-clause-others c =
    let p = c.self.inside in
    let q = c.other.inside in
    let i : ℕ = c.common_spans-spans.result in
    let within : i ≤ length p.spans.items = rw c.deref-2.ensures.value at c.common_spans-spans.ensures.own in
    let count : length p.starts.items ≡ length p.spans.items + 1 = c.self.invariant.starts.count in
    let start : c.index.result.now ≡ get_or p.starts.items i 0 = c.index.ensures ∙ any-default p.starts.items i c.index.result.now 0 (omega (arith, within, count)) in
    let common : AreCommon c.args.marks.now p.recs.items (take i p.spans.items) q.recs.items (take i q.spans.items)
    = rw (c.deref.ensures.value, c.deref-2.ensures.value, c.deref-3.ensures.value, c.deref-4.ensures.value) at c.common_spans-spans.ensures.common in
    rw (← c.other.view_is)
    (subst (λ (params : RealmParams). c.index.result.now ≤ length (entries_of params q.num_aux q.recs.items q.spans.items)) (c.is_same_realm.ensures.0 c.if-not-is_same_realm.false)
    (subst (λ (aux : ℕ). c.index.result.now ≤ length (entries_of p.params aux q.recs.items q.spans.items)) c.if-self-other.false
    (other-length c.args.marks.now p.params p.num_aux p.recs.items q.recs.items p.spans.items q.spans.items p.starts.items i c.index.result.now c.self.invariant.starts within start common)))

pub returns-clause-same : goal.returns-clause-same
returns-clause-same c = λ f g agree.
    let p = c.self.inside in
    let q = c.other.inside in
    let n : ℕ = c.index.result.now in
    let i : ℕ = c.common_spans-spans.result in
    let within : i ≤ length p.spans.items = rw c.deref-2.ensures.value at c.common_spans-spans.ensures.own in
    let count : length p.starts.items ≡ length p.spans.items + 1 = c.self.invariant.starts.count in
    let start : n ≡ get_or p.starts.items i 0 = c.index.ensures ∙ any-default p.starts.items i c.index.result.now 0 (omega (arith, within, count)) in
    let common : AreCommon c.args.marks.now p.recs.items (take i p.spans.items) q.recs.items (take i q.spans.items)
    = rw (c.deref.ensures.value, c.deref-2.ensures.value, c.deref-3.ensures.value, c.deref-4.ensures.value) at c.common_spans-spans.ensures.common in
    rw (← c.self.view_is, ← c.other.view_is)
    (same-first c.args.marks.now p.params p.num_aux p.recs.items q.recs.items p.spans.items q.spans.items p.starts.items i n c.self.invariant.starts within start common f g agree
    ∙ ap (λ (params : RealmParams). take n (commands_of g (entries_of params p.num_aux q.recs.items q.spans.items))) (c.is_same_realm.ensures.0 c.if-not-is_same_realm.false)
    ∙ ap (λ (aux : ℕ). take n (commands_of g (entries_of q.params aux q.recs.items q.spans.items))) c.if-self-other.false)
