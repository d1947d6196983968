use Rattle.std.proofs.Common.{map}
use Rattle.job_core.specs.Jobs.{NeedsWithin}
use Rattle.job_board_tests.proofs.tests.needs_of.Given as goal

abbrev pub invariant-loop-list : goal.invariant-loop-list
invariant-loop-list l = NeedsWithin (map (λ needed. needed.items) l.needs.items) l.pages
