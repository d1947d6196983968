use Rattle.std.proofs.Common.{arith}
use Rattle.rtt_plan.proofs.RunsCoverRegion.{region-runs}
use Rattle.rtt_plan.proofs.laws.runs_follow_one_another.Goals as goal

pub returns : goal.returns
returns c base end least_level region low some = region-runs least_level base end least_level (omega arith) region low some
