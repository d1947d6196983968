use Rattle.std.proofs.Common.{◌≡◌, ◌∙◌, [], ◌∷◌, ◌++◌, rules, ap, subst, sym, true, false}
use Rattle.std.specs.Prelude.{codes}
use Rattle.hex.specs.Hex.{encode_lower}
use Rattle.rim_desc.specs.Measurement.{algo_word}
use Rattle.rmi_line.specs.Ends.{digest_bytes, spaced_word}
use Rattle.rmi_line.specs.inside.Left.{AreLeft}
use Rattle.rmi_line.proofs.EndsWordByWord.{last-words, same-algo, same-rest}
use Rattle.rmi_line.proofs.ends.read_last.Goals as goal

pub returns-then-are_taken : goal.returns-then-are_taken
returns-then-are_taken c =
    let algo = c.algo-algo.result in
    let digits = encode_lower (digest_bytes algo c.digest-bytes.result) in
    let none : AreLeft c.digest-bytes.new.self [] = c.are_taken.ensures.0 c.if-are_taken.true in
    let one : AreLeft c.algo-algo.new.self (digits ∷ []) = c.digest-bytes.ensures.found [] none in
    let two : AreLeft c.new-words.result (algo_word algo ∷ digits ∷ []) = c.algo-algo.ensures.found (digits ∷ []) one in
    let rest = (c.new-words.ensures (algo_word algo ∷ digits ∷ [])).1 two in
    (c.in_ok-after.ensures ∙ ap (λ t. codes "rim" ++ t) (rest ∙ last-words algo digits), (search rules, c.bytes_fit.ensures))

pub returns-else-are_taken : goal.returns-else-are_taken
returns-else-are_taken c = λ algo rim spells.
    let digits = encode_lower (digest_bytes algo rim.bytes) in
    let rest = same-rest (codes "rim") c.args.line.now c.in_ok-after.field-0.now (spaced_word algo ++ digits) c.in_ok-after.ensures spells.0 ∙ sym (last-words algo digits) in
    let two : AreLeft c.new-words.result (algo_word algo ∷ digits ∷ []) = (c.new-words.ensures (algo_word algo ∷ digits ∷ [])).0 rest in
    let one : AreLeft c.algo-algo.new.self (digits ∷ []) = c.algo-algo.ensures.only algo (digits ∷ []) tt two in
    let other = c.algo-algo.ensures.found (digits ∷ []) one in
    let same : c.algo-algo.result ≡ algo = same-algo c.algo-algo.result algo (digits ∷ []) (sym other.rest ∙ two.rest) in
    let none = c.digest-bytes.ensures.only rim.bytes [] spells.1 (subst (λ a. AreLeft c.algo-algo.new.self (encode_lower (digest_bytes a rim.bytes) ∷ [])) (sym same) one) in
    let both : true ≡ false = sym (c.are_taken.ensures.1 none) ∙ c.if-are_taken.false in
    cc
