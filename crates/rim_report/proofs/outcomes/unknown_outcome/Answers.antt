use Rattle.std.proofs.Common.{ap, sym}
use Rattle.rim_desc.specs.Page.{zeros}
use Rattle.rim_report.specs.inside.Unknown.{unknown_outcome}
use Rattle.rim_report.proofs.outcomes.unknown_outcome.Goals as goal

pub returns-in-Ok : goal.returns-in-Ok
unfolding zeros
returns-in-Ok c = ap unknown_outcome (sym c.in-Ok.is)
