-- Whether a range has a table deeper than a level, by a look-up at each of the three levels.
use Rattle.std.proofs.Common.{inl, inr, ◌≡◌, ℕ, ◌<◌, ◌≤◌, ◌∙◌, refl, arith, Bool, true, false, ◌&&◌, ◌||◌, leb, ltb, List, [], ◌∷◌, ◌⊎◌}
use Rattle.std.proofs.lemmas.Bool.{cases_Bool}
use Rattle.std.proofs.lemmas.Bool.Decides.{nat_tests}
use Rattle.rmm_model.proofs.WalksByLookUp.{levels}
use Rattle.rmm_model.specs.declared.table.Table.{Table}
use Rattle.rmm_model.specs.Space.{ArePlaced, deeper, has_table_in, made}
use Rattle.rmm_model.proofs.EndsOfWalks.{made-here, made-there}

pub deeper-at : (ts : List Table) (l j base top : ℕ) → l < j → has_table_in ts j base top ≡ true → deeper ts l base top ≡ true
deeper-at [] l j base top lt = λ h. h
deeper-at (t ∷ ts) l j base top lt =
    let i : has_table_in ts j base top ≡ true → deeper ts l base top ≡ true = deeper-at ts l j base top lt in
    λ h. grind (arith, nat_tests)

-- a table of a deeper level in the range is one of level 1, 2 or 3
pub deeper-levels : (start : ℕ) (ts : List Table) (l base top : ℕ) → ((j b : ℕ) → made ts j b ≡ true → (start < j) × (j ≤ 3)) → deeper ts l base top ≡ true
    → ((l < 1) × (has_table_in ts 1 base top ≡ true)) ⊎ (((l < 2) × (has_table_in ts 2 base top ≡ true)) ⊎ ((l < 3) × (has_table_in ts 3 base top ≡ true)))
deeper-levels start [] l base top placed = λ h. absurd (cc)
deeper-levels start (t ∷ ts) l base top placed =
    let i = deeper-levels start ts l base top (λ j b m. placed j b (made-there t ts j b m)) in
    let here = placed t.level t.base (made-here t ts) in
    elim (cases_Bool (ltb l t.level && (leb base t.base && ltb t.base top))) [
      | inl k ↦ (λ h. elim (levels t.level (omega arith) (here.1)) [
        | inl a ↦ inl (omega (arith, below t l base top k, a), there t ts l 1 base top a k)
        | inr (inl a) ↦ inr (inl (omega (arith, below t l base top k, a), there t ts l 2 base top a k))
        | inr (inr a) ↦ inr (inr (omega (arith, below t l base top k, a), there t ts l 3 base top a k))
      ])
      | inr k ↦ rw k (λ h. elim (i h) [
        | inl a ↦ inl (a.0, later t ts 1 base top a.1)
        | inr (inl a) ↦ inr (inl (a.0, later t ts 2 base top a.1))
        | inr (inr a) ↦ inr (inr (a.0, later t ts 3 base top a.1))
      ])
    ]
  where
    below : (t : Table) (l base top : ℕ) → (ltb l t.level && (leb base t.base && ltb t.base top)) ≡ true → l < t.level
    below t l base top h = grind (arith, nat_tests)

    there : (t : Table) (ts : List Table) (l j base top : ℕ) → t.level ≡ j → (ltb l t.level && (leb base t.base && ltb t.base top)) ≡ true
        → has_table_in (t ∷ ts) j base top ≡ true
    there t ts l j base top level h = grind (arith, nat_tests)

    later : (t : Table) (ts : List Table) (j base top : ℕ) → has_table_in ts j base top ≡ true → has_table_in (t ∷ ts) j base top ≡ true
    later t ts j base top h = grind (arith, nat_tests)

both-true : (a : Bool) (l j : ℕ) → l < j → a ≡ true → (ltb l j && a) ≡ true
both-true a l j lt h = grind (arith, nat_tests)

-- so the three levels answer for all
pub deeper-by_level : (start : ℕ) (ts : List Table) (l base top : ℕ) (a b c : Bool) → ArePlaced start ts
    → a ≡ (ltb l 1 && has_table_in ts 1 base top) → b ≡ (ltb l 2 && has_table_in ts 2 base top) → c ≡ (ltb l 3 && has_table_in ts 3 base top)
    → (a || b || c) ≡ deeper ts l base top
deeper-by_level start ts l base top a b c formed first second third =
    elim (cases_Bool (deeper ts l base top)) [
      | inl on ↦ rw on (elim (deeper-levels start ts l base top (λ j b m. ((formed.shape j b m).0, (formed.shape j b m).1)) on) [
        | inl h ↦ (let t : a ≡ true = first ∙ both-true _ l 1 h.0 h.1 in grind arith)
        | inr (inl h) ↦ (let t : b ≡ true = second ∙ both-true _ l 2 h.0 h.1 in grind arith)
        | inr (inr h) ↦ (let t : c ≡ true = third ∙ both-true _ l 3 h.0 h.1 in grind arith)
      ])
      | inr off ↦
          (let none : (j : ℕ) → (ltb l j && has_table_in ts j base top) ≡ false = λ j. not-deeper ts l j base top off in
          rw (off, first, second, third, none 1, none 2, none 3) refl)
    ]
  where
    not-deeper : (ts : List Table) (l j base top : ℕ) → deeper ts l base top ≡ false → (ltb l j && has_table_in ts j base top) ≡ false
    not-deeper ts l j base top off = elim (cases_Bool (ltb l j && has_table_in ts j base top)) [
      | inl h ↦ (let lt : l < j = grind (arith, nat_tests) in
          let there : has_table_in ts j base top ≡ true = grind (arith, nat_tests) in
          let on : deeper ts l base top ≡ true = deeper-at ts l j base top lt there in absurd (cc))
      | inr h ↦ h
    ]
