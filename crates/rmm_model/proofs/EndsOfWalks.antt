-- A walk ends at the deepest table that covers its address.
use Rattle.std.proofs.Common.{inl, inr, ◌≡◌, ℕ, ◌/◌, ◌<◌, ◌≤◌, sym, refl, arith, true, max, leb, List, [], ◌∷◌, ◌⊎◌}
use Rattle.std.proofs.lemmas.Bool.Decides.{nat_tests}
use Rattle.rmm_model.specs.declared.table.Table.{Table}
use Rattle.rmm_model.specs.Blocks.{span}
use Rattle.rmm_model.specs.Space.{covers, made, walk}
use Rattle.std.proofs.Math.Nat.{eq-or-lt_of_le}
use Rattle.std.proofs.lemmas.Bool.{cases_Bool, eq-eqb, eqb-true}

-- ---- which tables are made

pub made-cases : (t : Table) (ts : List Table) (j b : ℕ) → made (t ∷ ts) j b ≡ true → ((t.level ≡ j) × (t.base ≡ b)) ⊎ (made ts j b ≡ true)
made-cases t ts j b m = grind (arith, nat_tests)

pub made-here : (t : Table) (ts : List Table) → made (t ∷ ts) t.level t.base ≡ true
made-here t ts = grind (arith, nat_tests)

pub made-there : (t : Table) (ts : List Table) (j b : ℕ) → made ts j b ≡ true → made (t ∷ ts) j b ≡ true
made-there t ts j b m = grind (arith, nat_tests)

-- ---- the walk's end

pub walk-from : (start : ℕ) (ts : List Table) (x : ℕ) → start ≤ walk start ts x
unfolding walk
walk-from start [] x = omega arith
walk-from start (t ∷ ts) x =
    let i : start ≤ walk start ts x = walk-from start ts x in
    elim (cases_Bool (covers t x)) [ inl h ↦ rw h (omega arith) | inr h ↦ rw h i ]

-- no table that covers x is deeper
pub walk-least : (start : ℕ) (ts : List Table) (x j b : ℕ) → made ts j b ≡ true → x / span j ≡ b / span j → j ≤ walk start ts x
unfolding walk
walk-least start [] x j b m h = absurd (cc)
walk-least start (t ∷ ts) x j b m h =
    elim (made-cases t ts j b m) [
      | inl w ↦
          let c : covers t x ≡ true = rw (w.0, w.1) (eq-eqb (x / span j) (b / span j) h) in
          rw c (omega arith)
      | inr w ↦
          let i : j ≤ walk start ts x = walk-least start ts x j b w h in
          elim (cases_Bool (covers t x)) [ inl c ↦ rw c (omega arith) | inr c ↦ rw c i ]
    ]

max-cases : (a b : ℕ) → (max a b ≡ a) ⊎ (max a b ≡ b)
max-cases a b = elim (cases_Bool (leb a b)) [ inl h ↦ inr (grind (arith, nat_tests)) | inr h ↦ inl (grind (arith, nat_tests)) ]

-- it ends at the start level, or at a table that covers x
unfoldable pub EndsAt : ℕ → List Table → ℕ → ℕ → Type 0
EndsAt start ts x w = (w ≡ start) ⊎ ((b : ℕ) × (made ts w b ≡ true) × (x / span w ≡ b / span w))

ends-there : (start : ℕ) (t : Table) (ts : List Table) (x w : ℕ) → EndsAt start ts x w → EndsAt start (t ∷ ts) x w
unfolding EndsAt
ends-there start t ts x w (inl e) = inl e
ends-there start t ts x w (inr e) = inr (e.0, made-there t ts w (e.0) (e.1), e.2)

ends-here : (start : ℕ) (t : Table) (ts : List Table) (x : ℕ) → covers t x ≡ true → EndsAt start (t ∷ ts) x t.level
unfolding EndsAt
ends-here start t ts x c = inr (t.base, made-here t ts, eqb-true _ _ c)

ends-start : (start : ℕ) (x : ℕ) → EndsAt start [] x start
unfolding EndsAt
ends-start start x = inl refl

pub walk-ends : (start : ℕ) (ts : List Table) (x : ℕ) → EndsAt start ts x (walk start ts x)
unfolding walk
walk-ends start [] x = ends-start start x
walk-ends start (t ∷ ts) x =
    let i : EndsAt start (t ∷ ts) x (walk start ts x) = ends-there start t ts x (walk start ts x) (walk-ends start ts x) in
    elim (cases_Bool (covers t x)) [
      | inl c ↦ rw c (elim (max-cases t.level (walk start ts x)) [
        | inl e ↦ rw e (ends-here start t ts x c)
        | inr e ↦ rw e i
      ])
      | inr c ↦ rw c i
    ]

-- where the table of a level that covers x is made, and no deeper one is, the walk ends at that level
pub walk-after : (start : ℕ) (ts : List Table) (x l b : ℕ) → start ≤ l → (start < l → (made ts l b ≡ true) × (x / span l ≡ b / span l))
    → ((j c : ℕ) → made ts j c ≡ true → l < j → x / span j ≡ c / span j → ⊥)
    → walk start ts x ≡ l
unfolding EndsAt
walk-after start ts x l b o own none =
    let low : l ≤ walk start ts x = elim (eq-or-lt_of_le o) [
      | inr lt ↦ walk-least start ts x l b ((own lt).0) ((own lt).1)
      | inl e ↦ (let f : start ≤ walk start ts x = walk-from start ts x in omega arith)
    ] in
    elim (walk-ends start ts x) [
      | inl e ↦ omega arith
      | inr e ↦ elim (eq-or-lt_of_le low) [
        | inl same ↦ sym same
        | inr lt ↦ absurd (none (walk start ts x) (e.0) (e.1) lt (e.2))
      ]
    ]
