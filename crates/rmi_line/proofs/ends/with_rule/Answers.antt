use Rattle.std.proofs.Common.{◌≡◌, ◌≢◌, ◌∙◌, [], ◌∷◌, ◌++◌, true, false, Some, None, ap, sym}
use Rattle.std.specs.Prelude.{codes}
use Rattle.std.specs.Fmt.{decimal}
use Rattle.rim_desc.specs.Rule.{rule_word}
use Rattle.rmi_line.specs.Ends.{first_line}
use Rattle.rmi_line.specs.inside.Left.{AreLeft}
use Rattle.rmi_line.proofs.EndsWordByWord.{one-version, ruled-words}
use Rattle.rmi_line.proofs.ReadNamed.{left_named}
use Rattle.rmi_line.proofs.ends.with_rule.Goals as goal

pub returns-then-are_taken : goal.returns-then-are_taken
returns-then-are_taken c =
    let n = c.count-num_aux.result in
    let r = c.rule-rule.result in
    let none : AreLeft c.rule-rule.new.self [] = c.are_taken.ensures.0 c.if-are_taken.true in
    let one : AreLeft c.word.new.self (rule_word r ∷ []) = c.rule-rule.ensures.found [] none in
    let two : AreLeft c.count-num_aux.new.self (codes "rec" ∷ rule_word r ∷ []) = c.word.ensures.found (rule_word r ∷ []) one in
    let three : AreLeft c.new-words.result (decimal n ∷ codes "rec" ∷ rule_word r ∷ []) = c.count-num_aux.ensures.taken.found (codes "rec" ∷ rule_word r ∷ []) two in
    (ap (λ t. codes "rim-list 2 aux" ++ t) ((c.new-words.ensures (decimal n ∷ codes "rec" ∷ rule_word r ∷ [])).1 three) ∙ ruled-words n r, c.count-num_aux.ensures.most)

pub returns-else-are_taken : goal.returns-else-are_taken
returns-else-are_taken c = λ n rule few. elim rule as (λ r. codes "rim-list 2 aux" ++ c.args.rest.now ≢ first_line n r) [
  | None ↦ λ spells. one-version (codes " " ++ decimal n) c.args.rest.now (sym spells)
  | Some r ↦ λ spells.
      let words = codes "rec" ∷ rule_word r ∷ [] in
      let three = left_named (codes "rim-list 2 aux") c.args.rest.now (decimal n ∷ words) c.new-words.result c.new-words.ensures (spells ∙ sym (ruled-words n r)) in
      let two = c.count-num_aux.ensures.taken.only n words few three in
      let one = c.word.ensures.only c.word.result (rule_word r ∷ []) _ two in
      let none = c.rule-rule.ensures.only r [] _ one in
      let both : true ≡ false = sym (c.are_taken.ensures.1 none) ∙ c.if-are_taken.false in
      cc
]
