use Rattle.std.proofs.Common.{◌≡◌, ◌++◌, take}
use Rattle.std.proofs.Math.ListN.{drop}
use Rattle.rim_report.specs.inside.Unknown.{with_rims}
use Rattle.rim_report.proofs.outcomes.set_rims.Given as goal

-- what was set, and what is left
abbrev pub invariant-loop-i : goal.invariant-loop-i
invariant-loop-i l = take l.i l.outcomes.items ++ with_rims (drop l.i l.outcomes.items) l.rest ≡ with_rims l.initial.outcomes.items l.rims
