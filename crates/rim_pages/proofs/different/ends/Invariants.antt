use Rattle.std.proofs.Common.{◌≡◌, take}
use Rattle.std.specs.List.{flat_map}
use Rattle.rim_pages.specs.inside.Ends.{outcome_ends}
use Rattle.rim_pages.proofs.different.ends.Given as goal

abbrev pub invariant-loop-outcome : goal.invariant-loop-outcome
invariant-loop-outcome l = l.ends.items ≡ flat_map outcome_ends (take l.outcome-index l.outcomes)
