-- Whether something in a list passes a test, by the first of those that pass.
use Rattle.std.proofs.Common.{inl, inr, ◌≡◌, ◌∙◌, sym, refl, Bool, true, false, List, [], ◌∷◌}
use Rattle.std.specs.Prelude.{Option, Some, None, is_some}
use Rattle.std.specs.List.{filter, list_any}
use Rattle.std.specs.Map.Iter.{TakesFirst}
use Rattle.std.proofs.lemmas.Bool.{cases_Bool}
use Rattle.rmm_model.proofs.TestsThatAgree.{list_any-same}

filter-none : {X : Type 0} (p : X → Bool) (xs : List X) → filter p xs ≡ [] → list_any p xs ≡ false
filter-none p [] = λ h. refl
filter-none p (x ∷ xs) = elim (cases_Bool (p x)) [ inl t ↦ rw t (λ h. absurd (cc)) | inr f ↦ rw f (λ h. filter-none p xs h) ]

filter-some : {X : Type 0} (p : X → Bool) (xs : List X) (y : X) (ys : List X) → filter p xs ≡ y ∷ ys → list_any p xs ≡ true
filter-some p [] y ys = λ h. absurd (cc)
filter-some p (x ∷ xs) y ys = elim (cases_Bool (p x)) [ inl t ↦ rw t (λ h. refl) | inr f ↦ rw f (λ h. filter-some p xs y ys h) ]

-- whether something passes, by the first that does
pub first-passes : {A X : Type 0} (shows : A → X) (p q : X → Bool) (xs s t : List X) (r : Option A) → ((x : X) → p x ≡ q x) → s ≡ filter p xs → TakesFirst shows s r t → is_some r ≡ list_any q xs
first-passes shows p q xs s t None same is taken = sym (filter-none p xs (sym is ∙ taken.0)) ∙ list_any-same p q xs same
first-passes shows p q xs s t (Some x) same is taken = sym (filter-some p xs (shows x) t (sym is ∙ taken)) ∙ list_any-same p q xs same
