-- Granules side by side: none comes twice, and each is named by its number.
use Rattle.std.proofs.Common.{inl, inr, ◌≡◌, ℕ, zero, suc, ◌+◌, ◌*◌, ◌≤◌, ◌∙◌, refl, ap, arith, true, false, eqb, [], ◌∷◌, ◌++◌, map}
use Rattle.std.specs.List.{range_with_len}
use Rattle.std.proofs.lemmas.Bool.{cases_Bool, eqb-true}
use Rattle.rmm_model.specs.Blocks.{granules}
use Rattle.rmm_model.specs.Space.{has}
use Rattle.rmm_model.specs.Owners.{repeats}

pub granules-none : (n x : ℕ) → n ≤ 0 → granules n x ≡ []
unfolding granules
granules-none n x few = let e : n ≡ 0 = omega arith in rw e refl

-- one granule more, at the end
pub granules-last : (n x : ℕ) → granules (n + 1) x ≡ granules n x ++ (x + 4096 * n) ∷ []
unfolding granules
granules-last zero x = (let e : x + 4096 * 0 ≡ x = omega arith in rw e refl)
granules-last (suc n) x =
    let e : suc n + 1 ≡ suc (n + 1) = omega arith in
    let f : x + 4096 * suc n ≡ (x + 4096) + 4096 * n = omega arith in
    rw (e, f) (ap (λ gs. x ∷ gs) (granules-last n (x + 4096)))

pub granules-from : (n x y : ℕ) → has (granules n x) y ≡ true → x ≤ y
unfolding granules
granules-from zero x y = λ there. absurd (cc)
granules-from (suc n) x y =
    elim (cases_Bool (eqb x y)) [
      | inl e ↦ (λ there. (let same : x ≡ y = eqb-true x y e in omega arith))
      | inr no_match ↦ rw no_match (λ there. (let far : x + 4096 ≤ y = granules-from n (x + 4096) y there in omega arith))
    ]

pub repeats-granules : (n x : ℕ) → repeats (granules n x) ≡ false
unfolding granules
repeats-granules zero x = refl
repeats-granules (suc n) x = elim (cases_Bool (has (granules n (x + 4096)) x)) [
  | inl there ↦ (let far : x + 4096 ≤ x = granules-from n (x + 4096) x there in absurd (omega arith))
  | inr apart ↦ rw (apart, repeats-granules n (x + 4096)) refl
]

-- each is named by its number
granules-numbered : (n a x : ℕ) → granules n (x + 4096 * a) ≡ map (λ k. x + 4096 * k) (range_with_len a n)
unfolding granules
granules-numbered zero a x = refl
granules-numbered (suc n) a x =
    let e : (x + 4096 * a) + 4096 ≡ x + 4096 * (a + 1) = omega arith in
    rw e (ap (λ ys. (x + 4096 * a) ∷ ys) (granules-numbered n (a + 1) x))

pub granules-map : (n x : ℕ) → granules n x ≡ map (λ k. x + 4096 * k) (range_with_len 0 n)
granules-map n x = let e : x ≡ x + 4096 * 0 = omega arith in ap (granules n) e ∙ granules-numbered n 0 x
