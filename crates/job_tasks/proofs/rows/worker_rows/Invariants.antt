use Rattle.std.proofs.Common.{◌≡◌, Some, replicate}
use Rattle.job_tasks.proofs.rows.worker_rows.Given as goal

abbrev pub invariant-loop-i : goal.invariant-loop-i
invariant-loop-i g l = l.rows.items ≡ replicate l._i (Some tt)
