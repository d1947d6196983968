use Rattle.std.proofs.Common.{◌∷◌, sym}
use Rattle.std.specs.List.{flat_map}
use Rattle.rim_desc.specs.Rule.{rule_word}
use Rattle.rim_desc.specs.declared.rule.RecRule.TheVariants.{All, Runnable}
use Rattle.rmi_line.specs.inside.Left.{AreLeft}
use Rattle.rmi_line.specs.inside.Words.{spaced}
use Rattle.rmi_line.proofs.TakenWords.{left_alike}
use Rattle.rmi_line.proofs.reader.Words.rule.Goals as goal

pub returns : goal.returns
returns c =
    let kept = c.takes.ensures.kept c.if-takes.false in
    record {
      found = λ others left.
          left_alike c.takes.new.self c.args.self.now _ (sym c.takes.ensures.whole) (sym kept) (c.word.ensures.found others left);
      only = λ value others any. elim value as (λ v. AreLeft c.args.self.now (rule_word v ∷ others) → AreLeft c.word.new.self others) [
        | All ↦ λ left. absurd (c.takes.ensures.other c.if-takes.false (flat_map spaced others) left.rest)
        | Runnable ↦ λ left. c.word.ensures.only _ others _ (left_alike c.args.self.now c.takes.new.self _ c.takes.ensures.whole kept left)
      ];
    }
