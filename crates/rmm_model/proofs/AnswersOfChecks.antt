-- What lists of checks answer.
use Rattle.std.proofs.Common.{inl, inr, ◌≡◌, ℕ, zero, suc, refl, Bool, false, List, [], ◌∷◌, ◌⊎◌, get_or}
use Rattle.std.specs.Prelude.{Ok, Err}
use Rattle.std.specs.List.{list_any}
use Rattle.std.proofs.lemmas.Bool.{cases_Bool, or_parts}
use Rattle.refusal.specs.Checks.{Check, unless_refused}

-- the answer is what was asked for, or a refusal
pub done-or-refused : {A Refusal : Type 0} (checks : List (Check Refusal)) (done : A)
    → (unless_refused checks done ≡ Ok done) ⊎ ((e : Refusal) × (unless_refused checks done ≡ Err e))
done-or-refused [] done = inl refl
done-or-refused (check ∷ others) done = elim (cases_Bool check.1) [
  | inl holds ↦ inr (check.0, rw holds refl)
  | inr passed ↦ rw passed (done-or-refused others done)
]

-- whether one of these checks holds
abbrev pub holds : {Refusal : Type 0} → List (Check Refusal) → Bool
holds checks = list_any (λ check. check.1) checks

pub none-holds : {A Refusal : Type 0} (checks : List (Check Refusal)) (done answer : A) → unless_refused checks done ≡ Ok answer → holds checks ≡ false
none-holds [] done answer = λ at. refl
none-holds (check ∷ others) done answer = elim (cases_Bool check.1) [
  | inl on ↦ rw on (λ at. absurd (cc))
  | inr off ↦ rw off (λ at. none-holds others done answer at)
]

-- nor then the one at a place
pub off-at : {Refusal : Type 0} (checks : List (Check Refusal)) (i : ℕ) (none : Refusal) → holds checks ≡ false → (get_or checks i (none, false)).1 ≡ false
off-at [] i none off = refl
off-at (check ∷ others) zero none off = (or_parts check.1 (holds others) off).0
off-at (check ∷ others) (suc i) none off = off-at others i none ((or_parts check.1 (holds others) off).1)
