use Rattle.rim_report.proofs.LinesOfAnyRun.{values-are-rims}
use Rattle.rim_report.proofs.laws.a_value_is_its_launchs_rim.Goals as goal

pub returns : goal.returns
returns c =
    λ files r plans workers needs es numbered read are size hold legal k value has. values-are-rims files r numbered read plans workers needs es are size
    hold legal k value has
