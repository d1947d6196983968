use Rattle.std.proofs.Common.{◌≡◌, ◌+◌, sum, vec_len}
use Rattle.job_board.proofs.closing.add_up.Given as goal

abbrev pub invariant-loop-share : goal.invariant-loop-share
invariant-loop-share g l = (l.all.parts + vec_len l.rest ≡ vec_len l.fn.shares) × (l.all.amount + sum l.rest.items ≡ sum l.fn.shares.items)

abbrev pub decreases-loop-share : goal.decreases-loop-share
decreases-loop-share g l = vec_len l.rest
