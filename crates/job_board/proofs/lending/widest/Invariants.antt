use Rattle.std.proofs.Common.{◌≤◌}
use Rattle.rim_desc.specs.declared.side_by_side.TheConstants.{MOST_LANES}
use Rattle.job_board.proofs.lending.widest.Given as goal

abbrev pub invariant-loop-plan : goal.invariant-loop-plan
invariant-loop-plan l = l.widest ≤ MOST_LANES
