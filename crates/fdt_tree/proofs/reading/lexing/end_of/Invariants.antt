use Rattle.std.proofs.Common.{◌≡◌, ℕ, ◌+◌, Option, Some, None, drop}
use Rattle.fdt_tree.specs.Scanning.{until_zero}
use Rattle.fdt_tree.proofs.reading.lexing.end_of.Given as goal

abbrev pub shifted : ℕ → Option ℕ → Option ℕ
shifted n None = None
shifted n (Some k) = Some (n + k)

abbrev pub invariant-loop-i : goal.invariant-loop-i
invariant-loop-i l = shifted l.i (until_zero (drop l.i l.bytes)) ≡ until_zero l.bytes
