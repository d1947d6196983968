use Rattle.std.specs.Prelude.{string_bytes}
use Rattle.rim_check.proofs.HexadecimalDigits.{AreLast}
use Rattle.rim_check.proofs.detail.hexadecimal.Given as goal

abbrev pub invariant-loop-rest : goal.invariant-loop-rest
invariant-loop-rest l = AreLast l.number l.rest (string_bytes l.digits)

abbrev pub decreases-loop-rest : goal.decreases-loop-rest
decreases-loop-rest l = l.rest
