use Rattle.std.proofs.Common.{arith}
use Rattle.rim_desc.specs.Number.{digits_of}
use Rattle.rmi_line.specs.Typed.{IsWord}
use Rattle.rmi_line.proofs.TakenWords.{taken_more}
use Rattle.rmi_line.proofs.reader.Words.addresses.Goals as goal

pub loop-place-preserved : goal.loop-place-preserved
loop-place-preserved c =
    taken_more digits_of IsWord _ _ _ c.loop-place.places c.loop-place.place-index c.address.result (omega arith) c.loop-place.invariant c.address.ensures
