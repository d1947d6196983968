use Rattle.std.proofs.Common.{List, ℕ}
use Rattle.rim_check.specs.inside.Found.{AreWarned, numbers_of}
use Rattle.rim_check.proofs.WarningLines.{ShowsEach}
use Rattle.rim_check.proofs.warnings.Warnings.remarks.Given as goal

abbrev pub invariant-loop-warning : goal.invariant-loop-warning
invariant-loop-warning l = (files : List (List ℕ)) → AreWarned files l.launches (numbers_of l.self) → ShowsEach files l.launches l.remarks.items
