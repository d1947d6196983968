use Rattle.std.proofs.Common.{◌≡◌, ◌*◌, ◌<◌, ◌∙◌, false, true, refl, subst, sym}
use Rattle.list_model.specs.Content.{is_measured}
use Rattle.rmi_list.specs.declared.span.Span.{Span}
use Rattle.rmi_list.specs.inside.Spans.{commands_in}
use Rattle.rmi_list.proofs.CommandsOfSpans.{even-at, none-measured, odd-at, one-measured}
use Rattle.rmi_list.proofs.plan.page_in.Goals as goal

pub returns-then-not-is_measured : goal.returns-then-not-is_measured
returns-then-not-is_measured c = λ params num_aux recs.
    let lt : c.args.offset < 2 * c.in-Pages.count = subst (λ (k : Span). c.args.offset < commands_in k) c.in-Pages.is c.requires in
    let off : is_measured c.in-Pages.known ≡ false = sym c.is_measured.ensures ∙ c.if-not-is_measured.true in
    rw c.in-Pages.is (none-measured c.in-Pages.known params.rtt_base c.in-Pages.item c.args.offset c.in-Pages.count c.in-Pages.granule c.in-Pages.page c.in-Pages.ipa off lt)

pub returns-then-offset-eq0 : goal.returns-then-offset-eq0
returns-then-offset-eq0 c = λ params num_aux recs.
    let lt : c.args.offset < 2 * c.in-Pages.count = subst (λ (k : Span). c.args.offset < commands_in k) c.in-Pages.is c.requires in
    rw (c.in-Pages.is, even-at params.rtt_base c.in-Pages.known c.in-Pages.item c.args.offset c.in-Pages.count c.in-Pages.granule c.in-Pages.page c.in-Pages.ipa c.if-offset-eq0.true lt) refl

pub returns-else-offset-eq0 : goal.returns-else-offset-eq0
returns-else-offset-eq0 c = λ params num_aux recs.
    let lt : c.args.offset < 2 * c.in-Pages.count = subst (λ (k : Span). c.args.offset < commands_in k) c.in-Pages.is c.requires in
    let on : is_measured c.in-Pages.known ≡ true = sym c.is_measured.ensures ∙ c.if-not-is_measured.false in
    rw (
      c.in-Pages.is,
      odd-at params.rtt_base c.in-Pages.known c.in-Pages.item c.args.offset c.in-Pages.count c.in-Pages.granule c.in-Pages.page c.in-Pages.ipa c.if-offset-eq0.false lt,
    ) (sym (one-measured c.in-Pages.known _ _ _ _ on))
