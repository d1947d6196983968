use Rattle.std.proofs.Common.{◌≡◌, List, length, rules, true, sym, subst}
use Rattle.rim_launch.specs.declared.step.Step.{Step}
use Rattle.rim_launch.specs.Steps.{default_steps, steps_complete}
use Rattle.rim_launch.proofs.DefaultStepsComplete.{default-complete}
use Rattle.rim_launch.proofs.step.default_steps.Goals as goal

pub returns-clause-complete : goal.returns-clause-complete
unfolding default_steps
returns-clause-complete c =
    let n = length c.args.items.now in
    let made : c.push_recs.new.steps.items ≡ default_steps c.args.num_regions c.args.items.now c.args.num_recs = search rules in
    subst (λ (steps : List Step). steps_complete c.args.num_regions n c.args.num_recs steps ≡ true) (sym made) (default-complete c.args.num_regions c.args.items.now c.args.num_recs)
