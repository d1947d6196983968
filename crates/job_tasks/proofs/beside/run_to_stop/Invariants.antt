use Rattle.std.proofs.Common.{◌≡◌, length}
use Rattle.job_tasks.specs.Beside.{AreUnderWay}
use Rattle.job_tasks.proofs.beside.run_to_stop.Given as goal

abbrev pub invariant-turns : goal.invariant-turns
invariant-turns g l = (length l.chains ≡ length l.fn.chains) × AreUnderWay l.tasks l.chains
