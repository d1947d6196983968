use Rattle.std.proofs.Common.{◌≡◌, Some, length, map, take}
use Rattle.job_board.proofs.closing.copy_values.Given as goal

abbrev pub invariant-loop-number : goal.invariant-loop-number
invariant-loop-number l = (length l.values ≡ length l.given) × (take l.number (map Some l.values) ≡ take l.number l.given)
