use Rattle.rtt_plan.proofs.RunsAndPagesInTurn.{pages-in-turn}
use Rattle.rtt_plan.proofs.laws.pages_are_filled_in_turn.Goals as goal

pub returns : goal.returns
returns c = pages-in-turn
