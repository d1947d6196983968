-- A range meets ranges of RAM exactly where some address in it is RAM.
use Rattle.std.proofs.Common.{inl, inr, ◌≡◌, ℕ, ◌<◌, ◌≤◌, refl, arith, true, false, max, leb, ltb, ◌&&◌, List, [], ◌∷◌}
use Rattle.std.proofs.lemmas.Bool.Decides.{nat_tests}
use Rattle.rmm_model.specs.Space.{are_some, is_ram, overlaps}
use Rattle.std.proofs.lemmas.Bool.{cases_Bool}

pub ram-here : (r : ℕ × ℕ) (rs : List (ℕ × ℕ)) (x : ℕ) → r.0 ≤ x → x < r.1 → is_ram (r ∷ rs) x ≡ true
ram-here r rs x lo hi = grind (arith, nat_tests)

pub ram-there : (r : ℕ × ℕ) (rs : List (ℕ × ℕ)) (x : ℕ) → is_ram rs x ≡ true → is_ram (r ∷ rs) x ≡ true
ram-there r rs x h = grind (arith, nat_tests)

-- where a range meets base to top, some address between is RAM
pub overlaps-some : (rs : List (ℕ × ℕ)) (b t : ℕ) → are_some rs ≡ true → b < t → overlaps rs b t ≡ true → (y : ℕ) × (b ≤ y) × (y < t) × (is_ram rs y ≡ true)
overlaps-some [] b t some lt = λ h. absurd (cc)
overlaps-some (r ∷ rs) b t some lt =
    elim (cases_Bool (ltb r.0 t && ltb b r.1)) [
      | inl k ↦ (λ h. (let s : r.0 < r.1 = grind (arith, nat_tests) in
          let p : r.0 < t = grind (arith, nat_tests) in
          let q : b < r.1 = grind (arith, nat_tests) in
          (max b r.0, omega arith, omega arith, ram-here r rs (max b r.0) (omega arith) (omega arith))))
      | inr k ↦ rw k (λ h. (let others : are_some rs ≡ true = grind (arith, nat_tests) in
          let i : (y : ℕ) × (b ≤ y) × (y < t) × (is_ram rs y ≡ true) = overlaps-some rs b t others lt h in
          (i.0, i.1, i.2, ram-there r rs (i.0) (i.3))))
    ]

-- and where it does not, none is
pub some-overlaps : (rs : List (ℕ × ℕ)) (b t y : ℕ) → b ≤ y → y < t → is_ram rs y ≡ true → overlaps rs b t ≡ true
some-overlaps [] b t y lo hi = λ h. h
some-overlaps (r ∷ rs) b t y lo hi =
    elim (cases_Bool (leb r.0 y && ltb y r.1)) [
      | inl k ↦ (λ h. grind (arith, nat_tests))
      | inr k ↦ rw k (λ h. (let i : overlaps rs b t ≡ true = some-overlaps rs b t y lo hi h in grind (arith, nat_tests)))
    ]

-- ---- ranges that have no RAM

pub no-ram : (rs : List (ℕ × ℕ)) (b t y : ℕ) → overlaps rs b t ≡ false → b ≤ y → y < t → is_ram rs y ≡ false
no-ram rs b t y free lo hi = elim (cases_Bool (is_ram rs y)) [
  | inr n ↦ n
  | inl h ↦ (let some : overlaps rs b t ≡ true = some-overlaps rs b t y lo hi h in absurd (cc))
]

-- a part of such a range has none
pub overlaps-part : (rs : List (ℕ × ℕ)) (x end b t : ℕ) → overlaps rs x end ≡ false → x ≤ b → t ≤ end → overlaps rs b t ≡ false
overlaps-part [] x end b t h lo hi = refl
overlaps-part (r ∷ rs) x end b t h lo hi =
    let i : overlaps rs x end ≡ false → overlaps rs b t ≡ false = λ w. overlaps-part rs x end b t w lo hi in
    grind (arith, nat_tests)

-- nor has one after a range, with that range
pub overlaps-next : (r : ℕ × ℕ) (rs : List (ℕ × ℕ)) (b t : ℕ) → overlaps rs b t ≡ false → r.1 ≤ b → overlaps (r ∷ rs) b t ≡ false
overlaps-next r rs b t h lo = grind (arith, nat_tests)
