use Rattle.std.proofs.Common.{◌∙◌, sym, true, false, get_or}
use Rattle.std.specs.Prelude.{not}
use Rattle.std.proofs.lemmas.Bool.{not-false}
use Rattle.rim_launch.proofs.NamedNumbers.{named_twice}
use Rattle.rim_launch.proofs.conditions.mark_step.Goals as goal

pub returns-in-Some-clause-twice : goal.returns-in-Some-clause-twice
returns-in-Some-clause-twice c = λ steps at next marks known.
    named_twice c.args.target c.args.count steps c.args.named.now at c.args.step.now next.0 next.1 marks c.in-Some.number
    (sym c.number_of.ensures ∙ c.in-Some.is) c.if-number-count.true
    (not-false (get_or c.args.named.now c.in-Some.number false) (sym c.mark.ensures.fresh ∙ known))
