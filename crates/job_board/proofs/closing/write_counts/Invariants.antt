use Rattle.std.proofs.Common.{◌≡◌, take}
use Rattle.job_board.proofs.closing.write_counts.Given as goal

abbrev pub invariant-loop-k : goal.invariant-loop-k
invariant-loop-k g l = take l.k l.counts ≡ take l.k l.shares
