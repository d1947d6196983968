use Rattle.std.proofs.Common.{◌≡◌, ◌+◌, ℕ, take, get_or}
use Rattle.job_core.specs.inside.Reaches.{count_of}
use Rattle.job_core.proofs.reaches.count_group.Given as goal

abbrev pub invariant-loop-reach : goal.invariant-loop-reach
invariant-loop-reach l = (n : ℕ) → get_or l.left n 0 ≡ get_or l.fn.left n 0 + count_of n (take l.reach-index l.reaches)
