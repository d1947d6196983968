use Rattle.std.proofs.Common.{◌≡◌, ◌∷◌, refl, sym, subst}
use Rattle.std.proofs.lemmas.Nat.{be_bytes_8}
use Rattle.std.specs.Int.{to_be_bytes, w64}
use Rattle.hex.specs.Hex.{encode_lower}
use Rattle.rmi_line.specs.inside.Left.{AreLeft}
use Rattle.rmi_line.proofs.OneLineOneCommand.{to_be_bytes-fit, to_is_bytes}
use Rattle.rmi_line.proofs.reader.Words.address.Goals as goal

pub returns : goal.returns
returns c = record {
  found = λ others left.
      let bytes : to_be_bytes w64 c.from_be_bytes.result ≡ c.digits.new.bytes =
      be_bytes_8 c.digits.new.bytes c.from_be_bytes.result c.digits.auto.bytes (to_is_bytes c.digits.new.bytes c.digits.ensures.bytes) c.from_be_bytes.ensures in
      subst (λ bs. AreLeft c.args.self.now (encode_lower bs ∷ others)) (sym bytes) (c.digits.ensures.taken.found others left);
  only = λ n others fits left. c.digits.ensures.taken.only (to_be_bytes w64 n) others (refl, to_be_bytes-fit n) left;
}
