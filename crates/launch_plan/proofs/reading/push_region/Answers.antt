use Rattle.std.proofs.Common.{◌∙◌, ◌++◌, sym, ap, refl, map}
use Rattle.std.proofs.lemmas.List.{append-nil}
use Rattle.rtt_plan.proofs.GrowingRuns.{runs-end}
use Rattle.rtt_plan.proofs.EntryByEntry.{at-base}
use Rattle.launch_plan.specs.inside.Steps.{run_link}
use Rattle.launch_plan.proofs.reading.push_region.Goals as goal

pub loop-x-init : goal.loop-x-init
loop-x-init c = record { at = at-base _ _ _ c.requires.whole c.requires.low c.args.region.now.ordered; left = refl }

pub returns : goal.returns
returns c =
    let past = runs-end _ _ _ _ c.loop-x-test.false in
    sym (append-nil c.loop-x.links.items) ∙ (sym (ap (λ rs. c.loop-x.links.items ++ map run_link rs) past) ∙ c.loop-x.invariant.left)
