use Rattle.std.proofs.Common.{◌∙◌, ap}
use Rattle.rtt_plan.specs.inside.Undone.{undone}
use Rattle.rtt_plan.proofs.tables.add_region.Goals as goal

pub returns-clause-tables_kept : goal.returns-clause-tables_kept
unfolding undone
returns-clause-tables_kept c = c.take_back.ensures ∙ c.push_region.ensures.undone ∙ ap (λ acts. undone acts c.args.tables.now.keys) c.new-acts.ensures.items
