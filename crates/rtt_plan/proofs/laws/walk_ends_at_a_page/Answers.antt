use Rattle.rtt_plan.proofs.WithMissingTables.{walk-page}
use Rattle.rtt_plan.proofs.laws.walk_ends_at_a_page.Goals as goal

pub returns : goal.returns
returns c = walk-page
