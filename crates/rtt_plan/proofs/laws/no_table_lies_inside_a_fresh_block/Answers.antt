use Rattle.rtt_plan.proofs.WithMissingTables.{none-inside}
use Rattle.rtt_plan.proofs.laws.no_table_lies_inside_a_fresh_block.Goals as goal

pub returns : goal.returns
returns c = none-inside
