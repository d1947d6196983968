use Rattle.std.proofs.Common.{◌∙◌, refl, subst, arith, List}
use Rattle.std.proofs.lemmas.List.{take_all}
use Rattle.rim_launch.specs.declared.step.Step.{Step}
use Rattle.rim_launch.specs.inside.StepViews.{AreMarks}
use Rattle.rim_launch.proofs.NamedNumbers.{no_marks, all_marked}
use Rattle.rim_launch.proofs.conditions.each_once.Goals as goal

pub loop-step-init : goal.loop-step-init
loop-step-init c = (refl, no_marks c.args.target c.args.count c.requires)

pub returns : goal.returns
returns c =
    let steps = c.args.steps.now in
    let marks : AreMarks c.args.target c.args.count steps c.loop-step.named = subst (λ (s : List Step). AreMarks c.args.target c.args.count s c.loop-step.named) (take_all c.loop-step.step-index steps c.loop-step-test.false) c.loop-step.invariant.1 in
    c.all_marked.ensures ∙ all_marked c.args.target c.args.count steps c.loop-step.named (omega (arith, c.loop-step.invariant.0, c.requires)) marks
