use Rattle.rtt_plan.proofs.MissingTablesInTurn.{missing-in-turn}
use Rattle.rtt_plan.proofs.laws.missing_tables_are_made_in_turn.Goals as goal

pub returns : goal.returns
returns c = missing-in-turn
