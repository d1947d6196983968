use Rattle.std.proofs.Common.{◌≡◌, ℕ, take, get_or}
use Rattle.job_core.specs.inside.Reaches.{all_of}
use Rattle.job_core.proofs.reaches.count_all.Given as goal

abbrev pub invariant-loop-group : goal.invariant-loop-group
invariant-loop-group l = (n : ℕ) → get_or l.left n 0 ≡ all_of n (take l.group-index l.groups)
