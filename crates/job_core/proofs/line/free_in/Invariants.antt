use Rattle.std.proofs.Common.{◌≢◌, ◌<◌, ◌≤◌, ℕ, Some, get_or}
use Rattle.std.specs.List.{slice_get}
use Rattle.job_core.specs.declared.job.JobState.TheVariants.{Free}
use Rattle.job_core.proofs.line.free_in.Given as goal

abbrev pub invariant-loop-i : goal.invariant-loop-i
invariant-loop-i l = (k : ℕ) → l.from ≤ k → k < l.i → slice_get l.launches (get_or l.ready k 0) ≢ Some Free
