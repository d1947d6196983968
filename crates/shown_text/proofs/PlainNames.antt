-- The place of a launch is shown as it is, where the bytes of its name are.
use Rattle.std.proofs.Common.{◌≡◌, ◌∙◌, ◌==◌, ◌<◌, ◌+◌, ◌%◌, ◌^◌, ℕ, Bool, true, false, List, [], ◌∷◌, ◌++◌, arith, codes, decimal, refl}
use Rattle.std.specs.Prelude.{if◌then◌else◌}
use Rattle.std.specs.List.{list_all}
use Rattle.std.proofs.lemmas.Bool.{and_from}
use Rattle.std.proofs.lemmas.Fmt.{decimal_by_steps}
use Rattle.std.proofs.lemmas.Bool.Decides.{nat_tests}
use Rattle.std.proofs.lemmas.List.Folds.{list_all-append}
use Rattle.shown_text.specs.Shown.{is_plain}
use Rattle.shown_text.specs.Lines.{launch_text, others_text}

digit-plain : (d : ℕ) → d < 10 → is_plain (48 + d) ≡ true
digit-plain d low = grind (arith, nat_tests)

both-plain : (xs ys : List ℕ) → list_all is_plain xs ≡ true → list_all is_plain ys ≡ true → list_all is_plain (xs ++ ys) ≡ true
both-plain xs ys first second = list_all-append is_plain xs ys ∙ and_from (list_all is_plain xs) (list_all is_plain ys) first second

decimal-plain : (n : ℕ) → n < 2 ^ 64 → list_all is_plain (decimal n) ≡ true
decimal-plain = decimal_by_steps (λ m ds. list_all is_plain ds ≡ true) (λ m low. and_from (is_plain (48 + m)) true (digit-plain m low) refl)
    (λ m ds low plain. both-plain ds ((48 + m % 10) ∷ []) plain (and_from (is_plain (48 + m % 10)) true (digit-plain (m % 10) (omega arith)) refl))

one-of-both : (first : Bool) (xs ys : List ℕ) → list_all is_plain xs ≡ true → list_all is_plain ys ≡ true
    → list_all is_plain (if first then xs else ys) ≡ true
one-of-both true xs ys x y = x
one-of-both false xs ys x y = y

others-plain : (others : ℕ) → others < 2 ^ 64 → list_all is_plain (others_text others) ≡ true
others-plain others low =
    let many : list_all is_plain (codes "\" and " ++ (decimal others ++ codes " others")) ≡ true =
    both-plain (codes "\" and ") (decimal others ++ codes " others") refl (both-plain (decimal others) (codes " others") (decimal-plain others low) refl) in
    one-of-both (others == 0) (codes "\"") _ refl (one-of-both (others == 1) (codes "\" and 1 other") _ refl many)

pub launch-plain : (name : List ℕ) (others : ℕ) → others < 2 ^ 64 → list_all is_plain name ≡ true → list_all is_plain (launch_text name others) ≡ true
launch-plain name others low plain =
    both-plain (codes "launch \"") (name ++ others_text others) refl (both-plain name (others_text others) plain (others-plain others low))
