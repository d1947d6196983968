use Rattle.rtt_plan.proofs.RunsCoverRegion.{region-blocks}
use Rattle.rtt_plan.proofs.laws.blocks_of_runs_are_the_entries.Goals as goal

pub returns : goal.returns
returns c = region-blocks
