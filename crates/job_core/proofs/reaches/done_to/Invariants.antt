use Rattle.std.proofs.Common.{◌≡◌, ◌<◌, ◌≤◌, ◌+◌, ℕ, true}
use Rattle.job_core.specs.Jobs.{is_page_done}
use Rattle.job_core.proofs.reaches.done_to.Given as goal

abbrev pub invariant-loop-k : goal.invariant-loop-k
invariant-loop-k l = (j : ℕ) → l.from ≤ j → j < l.k → is_page_done l.pages (l.first + j) ≡ true
