use Rattle.std.proofs.Common.{rules}
use Rattle.rtt_plan.proofs.start.start_of.Goals as goal

pub returns-then-is_width : goal.returns-then-is_width
returns-then-is_width c = search rules
