use Rattle.rtt_plan.proofs.WithMissingTables.{walk-fresh}
use Rattle.rtt_plan.proofs.laws.walk_ends_at_a_fresh_block.Goals as goal

pub returns : goal.returns
returns c = walk-fresh
