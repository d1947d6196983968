use Rattle.std.proofs.Common.{take, arith}
use Rattle.std.proofs.lemmas.List.{length-take-le}
use Rattle.std.proofs.lemmas.List.Elements.{All-take}
use Rattle.rmi_line.specs.Typed.{IsByte}
use Rattle.rmi_line.proofs.reader.Words.digest.Goals as goal

pub returns-in-Sha256 : goal.returns-in-Sha256
returns-in-Sha256 c = rw c.in-Sha256.is (record {
  found = λ others left. rw c.padded.ensures (c.digits.ensures.taken.found others left);
  only = λ value others is left.
      c.digits.ensures.taken.only (take 32 value) others (length-take-le 32 value (omega (arith, is.0)), All-take IsByte 32 value is.1) left;
})
