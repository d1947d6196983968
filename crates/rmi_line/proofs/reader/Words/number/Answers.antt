use Rattle.std.proofs.Common.{◌≡◌, ◌∷◌, sym, ap, ◌∙◌, decimal, subst}
use Rattle.rmi_line.specs.inside.Left.{AreLeft}
use Rattle.rmi_line.proofs.reader.Words.number.Goals as goal

pub returns : goal.returns
returns c =
    let word : c.as_bytes.result.now ≡ decimal c.front_number-number.result = c.as_bytes.ensures.value ∙ c.format.ensures.text in
    record {
      found = λ others left. subst (λ w. AreLeft c.args.self.now (w ∷ others)) word (c.word.ensures.found others left);
      only = λ n others fits left.
          let number = c.front_number-number.ensures n others fits left.rest in
          c.word.ensures.only _ others _ (subst (λ w. AreLeft c.args.self.now (w ∷ others)) (sym (word ∙ ap decimal number)) left);
    }
