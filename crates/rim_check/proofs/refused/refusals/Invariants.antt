use Rattle.std.proofs.Common.{take}
use Rattle.rim_check.specs.Explained.{AreRefusals}
use Rattle.rim_check.proofs.refused.refusals.Given as goal

-- the remarks so far
abbrev pub invariant-loop-outcome : goal.invariant-loop-outcome
invariant-loop-outcome l = AreRefusals l.accepted.files (take l.outcome-index l.accepted.release.launches) l.remarks.items
