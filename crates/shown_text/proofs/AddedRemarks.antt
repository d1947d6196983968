-- A remark that is added to others.
use Rattle.std.proofs.Common.{List, [], ◌∷◌, ◌++◌, ap, refl, sym, subst}
use Rattle.shown_text.specs.Lines.{Saying, Says, SayInTurn}
use Rattle.shown_text.specs.declared.remark.Remark.{Remark}

-- remarks, and one at their end
pub remarks-append : (said : List Saying) (s : Saying) (remarks : List Remark) (r : Remark) → Says s r → SayInTurn said remarks
    → SayInTurn (said ++ s ∷ []) (remarks ++ r ∷ [])
remarks-append [] s remarks r says none =
    subst (SayInTurn (s ∷ [])) (ap (λ (front : List Remark). front ++ r ∷ []) (sym none))
    (record { first = r; rest = []; split = refl; says = says; follows = refl })
remarks-append (first ∷ said) s remarks r says begins = record {
  first = begins.first;
  rest = begins.rest ++ r ∷ [];
  split = ap (λ (front : List Remark). front ++ r ∷ []) begins.split;
  says = begins.says;
  follows = remarks-append said s begins.rest r says begins.follows;
}
