use Rattle.std.proofs.Common.{◌≡◌, ◌+◌, replicate}
use Rattle.job_board.proofs.share.cut.Given as goal

abbrev pub invariant-loop-i : goal.invariant-loop-i
invariant-loop-i g l = (l.rest.parts + l._i ≡ l.count) × (l.rest.amount ≡ 0) × (l.shares.items ≡ replicate l._i 0)
