use Rattle.std.proofs.Common.{◌≡◌, ◌≢◌, ◌∙◌, [], ◌∷◌, ◌++◌, true, false, Some, None, ap, sym}
use Rattle.std.specs.Prelude.{codes}
use Rattle.std.specs.Fmt.{decimal}
use Rattle.rim_desc.specs.Rule.{rule_word}
use Rattle.rmi_line.specs.Ends.{first_line}
use Rattle.rmi_line.specs.inside.Left.{AreLeft}
use Rattle.rmi_line.proofs.EndsWordByWord.{first-words, one-version}
use Rattle.rmi_line.proofs.ReadNamed.{left_named}
use Rattle.rmi_line.proofs.ends.without_rule.Goals as goal

pub returns-then-are_taken : goal.returns-then-are_taken
returns-then-are_taken c =
    let n = c.count-num_aux.result in
    let none : AreLeft c.count-num_aux.new.self [] = c.are_taken.ensures.0 c.if-are_taken.true in
    let one : AreLeft c.new-words.result (decimal n ∷ []) = c.count-num_aux.ensures.taken.found [] none in
    (ap (λ t. codes "rim-list 1 aux" ++ t) ((c.new-words.ensures (decimal n ∷ [])).1 one) ∙ first-words n, c.count-num_aux.ensures.most)

pub returns-else-are_taken : goal.returns-else-are_taken
returns-else-are_taken c = λ n rule few. elim rule as (λ r. codes "rim-list 1 aux" ++ c.args.rest.now ≢ first_line n r) [
  | None ↦ λ spells.
      let one = left_named (codes "rim-list 1 aux") c.args.rest.now (decimal n ∷ []) c.new-words.result c.new-words.ensures (spells ∙ sym (first-words n)) in
      let none = c.count-num_aux.ensures.taken.only n [] few one in
      let both : true ≡ false = sym (c.are_taken.ensures.1 none) ∙ c.if-are_taken.false in
      cc
  | Some r ↦ one-version c.args.rest.now (codes " " ++ (decimal n ++ (codes " rec " ++ rule_word r)))
]
