use Rattle.std.proofs.Common.{arith}
use Rattle.std.specs.Fmt.{decimal}
use Rattle.rmi_line.specs.Typed.{IsByte}
use Rattle.rmi_line.proofs.TakenWords.{taken_more}
use Rattle.rmi_line.proofs.reader.Words.each_number.Goals as goal

pub loop-place-preserved : goal.loop-place-preserved
loop-place-preserved c =
    taken_more decimal IsByte _ _ _ c.loop-place.places c.loop-place.place-index c.number.result (omega arith) c.loop-place.invariant c.number.ensures
