use Rattle.std.proofs.Common.{◌≡◌, length}
use Rattle.rim_report.proofs.chains.Chaining.keep_each.Given as goal

abbrev pub invariant-loop-lane : goal.invariant-loop-lane
invariant-loop-lane g l = (length l.tasks ≡ length l.fn.tasks) × (length l.values ≡ length l.fn.values)
