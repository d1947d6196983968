use Rattle.std.proofs.Common.{◌∙◌, sym}
use Rattle.rmm_model.specs.declared.outcome.Kind.TheVariants.{Delegated}
use Rattle.rmm_monitor.proofs.GivenBack.{put_back}
use Rattle.rmm_monitor.proofs.owners.Owners.delegate.Goals as goal

pub returns-in-Some-clause-kept : goal.returns-in-Some-clause-kept
returns-in-Some-clause-kept c =
    let es = c.self.inside.by_granule.entries in
    let found = rw c.in-Some.is at c.in_ok-insert.ensures.old in
    let again = put_back c.args.granule es c.in-Some.kind Delegated c.in_ok-insert.ensures.was_ordered (sym found) in
    λ _. c.give.ensures ∙ rw c.in_ok-insert.ensures.entries again ∙ c.self.view_is
