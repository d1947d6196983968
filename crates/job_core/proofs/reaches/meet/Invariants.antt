use Rattle.std.proofs.Common.{◌≡◌, ◌<◌, ◌≤◌, ◌+◌, ◌++◌, ℕ, List, drop, get_or, Some}
use Rattle.std.specs.Prelude.{vec_capacity}
use Rattle.std.specs.List.{slice_get}
use Rattle.job_core.specs.declared.reaches.Reach.{Reach}
use Rattle.job_core.specs.inside.Lines.{IsLine}
use Rattle.job_core.specs.inside.Reaches.{count_of}
use Rattle.job_core.proofs.reaches.meet.Given as goal

abbrev pub invariant-loop-k : goal.invariant-loop-k
invariant-loop-k l = record {
  met : (j : ℕ) (q : Reach) → l.from ≤ j → j < l.k → slice_get l.reaches j ≡ Some q → q.count ≤ l.done;
  left : (n : ℕ) → get_or l.left n 0 + count_of n (drop l.from l.reaches) ≡ get_or l.fn.left n 0 + count_of n (drop l.k l.reaches);
  line : IsLine l.left l.ready.items (vec_capacity l.ready);
  grows : (more : List ℕ) × (l.ready.items ≡ l.fn.ready.items ++ more);
}
