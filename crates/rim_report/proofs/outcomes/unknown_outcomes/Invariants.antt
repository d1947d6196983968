use Rattle.std.proofs.Common.{◌≡◌, map, take}
use Rattle.rim_report.specs.inside.Unknown.{unknown_outcome}
use Rattle.rim_report.proofs.outcomes.unknown_outcomes.Given as goal

abbrev pub invariant-loop-outcome : goal.invariant-loop-outcome
invariant-loop-outcome l = l.found.items ≡ map unknown_outcome (take l.outcome-index l.outcomes)
