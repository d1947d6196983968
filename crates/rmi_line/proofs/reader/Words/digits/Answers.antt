use Rattle.std.proofs.Common.{◌≡◌, length, refl, sym, ap, ◌∙◌, ◌++◌, arith}
use Rattle.std.specs.List.{flat_map}
use Rattle.hex.specs.Hex.{encode_lower, lower_digits}
use Rattle.hex.proofs.HexLemmas.{length-encode_with}
use Rattle.rmi_line.specs.inside.Words.{spaced}
use Rattle.rmi_line.proofs.TakenWords.{left_after, left_before, same_front}
use Rattle.rmi_line.proofs.reader.Words.digits.Goals as goal

pub returns-in_default-clause-taken : goal.returns-in_default-clause-taken
returns-in_default-clause-taken c = record {
  found = λ others left. cc left.whole;
  only = λ ys others fit left. absurd (c.in_default.ensures (encode_lower ys) (flat_map spaced others)
      (omega (arith, length-encode_with lower_digits ys, fit.0)) left.rest);
}

pub returns-then-not-decode-clause-taken : goal.returns-then-not-decode-clause-taken
returns-then-not-decode-clause-taken c = record {
  found = λ others left. cc left.whole;
  only = λ ys others fit left.
      let next = c.in-Some.ensures in
      let size : length c.in-Some.word.now ≡ length (encode_lower ys) = omega (arith, length-encode_with lower_digits ys, fit.0, next.1) in
      let same = same_front c.in-Some.word.now (encode_lower ys) c.in-Some.rest.now (flat_map spaced others) size (sym next.0 ∙ left.rest) in
      cc (c.if-not-decode.true, c.decode.ensures.only ys fit.0 fit.1 same);
}

pub returns-clause-taken : goal.returns-clause-taken
returns-clause-taken c =
    let next = c.in-Some.ensures in
    record {
      found = λ others left. left_before c.args.self.now _ (encode_lower c.decode.new.bytes) others refl
          (next.0 ∙ ap (λ word. spaced word ++ c.in-Some.rest.now) (c.decode.ensures.found c.if-not-decode.false)) left;
      only = λ ys others fit left.
          let size : length c.in-Some.word.now ≡ length (encode_lower ys) = omega (arith, length-encode_with lower_digits ys, fit.0, next.1) in
          let same = same_front c.in-Some.word.now (encode_lower ys) c.in-Some.rest.now (flat_map spaced others) size (sym next.0 ∙ left.rest) in
          left_after c.args.self.now _ (encode_lower ys) others refl (next.0 ∙ ap (λ word. spaced word ++ c.in-Some.rest.now) same) left;
    }
