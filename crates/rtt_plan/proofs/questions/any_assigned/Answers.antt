use Rattle.std.proofs.Common.{◌∙◌}
use Rattle.rtt_plan.proofs.DataPagesAsRanges.{assigned-overlaps}
use Rattle.rtt_plan.proofs.questions.any_assigned.Goals as goal

pub returns : goal.returns
returns c = c.overlaps.ensures ∙ assigned-overlaps _ _ _ c.requires.whole c.requires.at c.requires.some
