use Rattle.std.proofs.Common.{inr, ◌++◌, ◌∙◌, refl, sym}
use Rattle.std.proofs.lemmas.Result.{err_from_is_err_and}
use Rattle.rmi_list.specs.declared.reason.StepReason.TheVariants.{RecNotRunnable, RecOrder}
use Rattle.rmi_list.specs.inside.Drafts.{Grows, Refuses}
use Rattle.rmi_list.proofs.StepsAreListed.{aux-same, aux_granules, grows-then, own_granule, rec-makes, rec-not-runnable, rec-out-of-order, rec-refused, rec-same, rec_itself, refused-first, refused-later}
use Rattle.rmi_list.proofs.draft.Draft.rec.Goals as goal

pub returns-then-number-self : goal.returns-then-number-self
returns-then-number-self c = inr (RecOrder c.args.self.now.num_recs, refl, rec-out-of-order c.args.self.now c.args.number c.args.rec.now c.if-number-self.true, refl)

pub returns-then-lacks_rule : goal.returns-then-lacks_rule
returns-then-lacks_rule c =
    inr (RecNotRunnable, refl, rec-not-runnable c.args.self.now c.args.number c.args.rec.now c.if-number-self.false (sym c.lacks_rule.ensures ∙ c.if-lacks_rule.true), tt)

pub returns-in_err-granule : goal.returns-in_err-granule
returns-in_err-granule c =
    let p = err_from_is_err_and c.from_residual.result c.from_residual.ensures.1 in
    let old = c.args.self.now in
    let r = c.args.rec.now in
    let e = c.in_err-granule.field-0.0 in
    rw (p.1, p.2) (rec-refused old c.args.number r e c.if-number-self.false (sym c.lacks_rule.ensures ∙ c.if-lacks_rule.false)
    (refused-first old e (own_granule old) (aux_granules old ++ rec_itself old c.args.number r) c.in_err-granule.ensures.lists))

pub returns-in_err-delegate_all : goal.returns-in_err-delegate_all
returns-in_err-delegate_all c =
    let p = err_from_is_err_and c.from_residual-in_err-delegate_all.result c.from_residual-in_err-delegate_all.ensures.1 in
    let old = c.args.self.now in
    let one = c.delegate.new.self in
    let r = c.args.rec.now in
    let e = c.in_err-delegate_all.field-0.0 in
    let grows = c.in_ok-granule.ensures.lists in
    let refused : Refuses one e (aux_granules old) = rw (← aux-same old one grows) c.in_err-delegate_all.ensures in
    rw (p.1, p.2) (rec-refused old c.args.number r e c.if-number-self.false (sym c.lacks_rule.ensures ∙ c.if-lacks_rule.false)
    (refused-later old one e (own_granule old) (aux_granules old ++ rec_itself old c.args.number r) grows (refused-first one e (aux_granules old) (rec_itself old c.args.number r) refused)))

pub returns : goal.returns
returns c =
    let old = c.args.self.now in
    let one = c.delegate.new.self in
    let two = c.delegate_all.new.self in
    let three = c.push.new.self in
    let r = c.args.rec.now in
    let number = c.args.number in
    let first = c.in_ok-granule.ensures.lists in
    let second : Grows one two (aux_granules old) = rw (← aux-same old one first) c.in_ok-delegate_all.ensures in
    let both = grows-then old one two (own_granule old) (aux_granules old) first second in
    let third : Grows two three (rec_itself old number r) =
    rw (← rec-same old two c.in_ok-granule.granule number r both.config both.placed c.in_ok-granule.ensures.value c.requires.own) c.in_ok-push.ensures in
    rec-makes old three number r c.requires.pool c.if-number-self.false (sym c.lacks_rule.ensures ∙ c.if-lacks_rule.false)
    (grows-then old one three (own_granule old) (aux_granules old ++ rec_itself old number r) first (grows-then one two three (aux_granules old) (rec_itself old number r) second third))
