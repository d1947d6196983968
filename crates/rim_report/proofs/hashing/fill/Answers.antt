use Rattle.rim_report.proofs.FilledSlots.{filled-next}
use Rattle.rim_report.proofs.hashing.fill.Goals as goal

pub returns-clause-filled : goal.returns-clause-filled
returns-clause-filled c = filled-next _ _ _ _ _ c.requires.filled c.in-Ok.ensures.ok.0 c.in-Ok.ensures.ok.1
