-- Bytes that are shown as they are end no line.
use Rattle.std.proofs.Common.{◌≡◌, ◌∙◌, ◌==◌, ℕ, true, List, [], ◌∷◌, ap, inl, inr, refl, sym}
use Rattle.std.specs.List.{list_all}
use Rattle.std.proofs.lemmas.Bool.{and_from, and_parts, cases_Bool, eqb-true, not_from_false, true≢false}
use Rattle.shown_text.specs.Shown.{is_inside, is_plain}

-- such a byte ends no line
one-inside : (b : ℕ) → is_plain b ≡ true → is_inside b ≡ true
one-inside b plain = elim (cases_Bool (b == 10)) [
  | inl is ↦ absurd (true≢false (sym plain ∙ ap is_plain (eqb-true b 10 is)))
  | inr other ↦ not_from_false (b == 10) other
]

pub plain-inside : (bs : List ℕ) → list_all is_plain bs ≡ true → list_all is_inside bs ≡ true
plain-inside [] plain = refl
plain-inside (b ∷ bs) plain =
    let parts = and_parts (is_plain b) (list_all is_plain bs) plain in
    and_from (is_inside b) (list_all is_inside bs) (one-inside b parts.0) (plain-inside bs parts.1)
