use Rattle.std.proofs.Common.{arith}
use Rattle.rtt_plan.specs.Runs.{runs_of}
use Rattle.rtt_plan.proofs.RunsCoverRegion.{ram-runs, region-runs}
use Rattle.rtt_plan.proofs.laws.runs_make_the_region_ram.Goals as goal

pub returns : goal.returns
returns c base end least_level x region low some =
    ram-runs least_level base end (runs_of base end least_level) (region-runs least_level base end least_level (omega arith) region low some) x
