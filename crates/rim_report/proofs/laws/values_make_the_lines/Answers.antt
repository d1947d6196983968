use Rattle.rim_report.proofs.LinesOfAnyRun.{values-make-lines}
use Rattle.rim_report.proofs.laws.values_make_the_lines.Goals as goal

pub returns : goal.returns
returns c =
    λ files r plans workers needs es numbered read are size hold legal over. values-make-lines files r numbered read plans workers needs es are size hold
    legal over
