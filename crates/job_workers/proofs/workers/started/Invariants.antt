use Rattle.std.proofs.Common.{◌≤◌, ◌+◌}
use Rattle.job_workers.proofs.workers.started.Given as goal

abbrev pub invariant-loop-share : goal.invariant-loop-share
invariant-loop-share g l = (1 ≤ l.started) × (l.started ≤ l.share-index + 1)
