use Rattle.rtt_plan.proofs.RunsAndPagesInTurn.{region-in-turn}
use Rattle.rtt_plan.proofs.laws.runs_are_set_in_turn.Goals as goal

pub returns : goal.returns
returns c = region-in-turn
