use Rattle.std.specs.Fmt.{decimal}
use Rattle.rmi_line.specs.Typed.{IsByte}
use Rattle.rmi_line.proofs.TakenWords.{AreTaken}
use Rattle.rmi_line.proofs.reader.Words.each_number.Given as goal

abbrev pub invariant-loop-place : goal.invariant-loop-place
invariant-loop-place l = AreTaken decimal IsByte l.fn.self l.self l.places l.place-index
