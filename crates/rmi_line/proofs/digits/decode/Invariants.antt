use Rattle.hex.specs.Hex.{lower_digits}
use Rattle.rmi_line.proofs.HexPairs.{ArePairs}
use Rattle.rmi_line.proofs.digits.decode.Given as goal

-- the pairs so far spell the bytes so far
abbrev pub invariant-loop-i : goal.invariant-loop-i
invariant-loop-i l = ArePairs lower_digits l.digits l.bytes l.i
