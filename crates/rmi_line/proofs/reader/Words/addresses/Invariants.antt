use Rattle.rim_desc.specs.Number.{digits_of}
use Rattle.rmi_line.specs.Typed.{IsWord}
use Rattle.rmi_line.proofs.TakenWords.{AreTaken}
use Rattle.rmi_line.proofs.reader.Words.addresses.Given as goal

abbrev pub invariant-loop-place : goal.invariant-loop-place
invariant-loop-place l = AreTaken digits_of IsWord l.fn.self l.self l.places l.place-index
