use Rattle.std.proofs.Common.{◌≡◌, length}
use Rattle.job_tasks.specs.Beside.{AreUnderWay}
use Rattle.rim_report.proofs.chains.Chaining.chain_each.Given as goal

abbrev pub invariant-stops : goal.invariant-stops
invariant-stops g l = (length l.chains ≡ length l.tasks) × AreUnderWay l.tasks l.chains
