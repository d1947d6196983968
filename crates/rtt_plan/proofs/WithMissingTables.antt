-- With the tables that a block needs, tables stay formed and the walk ends at the block's level.
use Rattle.std.proofs.Common.{inl, inr, ◌≡◌, ℕ, zero, suc, ◌+◌, ◌-◌, ◌/◌, ◌<◌, ◌≤◌, ◌∙◌, sym, refl, ap, arith, Bool, true, false, cond, not, eqb, List, ◌∷◌, ◌++◌, ◌⊎◌}
use Rattle.std.specs.List.{filter}
use Rattle.std.proofs.lemmas.Bool.Decides.{nat_tests}
use Rattle.rmm_model.specs.Blocks.{down, size, span}
use Rattle.rmm_model.specs.Space.{ArePlaced, is_ram, made, walk}
use Rattle.rmm_model.specs.declared.table.Table.{Table}
use Rattle.rmm_model.proofs.BlockArithmetic.{down-down, down-in, down-up, nest-le, span-pos, span-size}
use Rattle.std.proofs.lemmas.Bool.{cases_Bool}
use Rattle.rmm_model.proofs.AppendedSpaces.{made-back, made-both, made-front}
use Rattle.rmm_model.proofs.EndsOfWalks.{made-cases, made-here, made-there, walk-after}
use Rattle.rtt_plan.specs.Agreement.{IsFormed, IsFresh, IsUsed}
use Rattle.rtt_plan.specs.Missing.{needed, missing}

-- ---- which tables are made afterwards

-- a missing table is one of its level that covers x
missing-only : (ts : List Table) (n k x j b : ℕ) → made (filter (λ t. not (made ts t.level t.base)) (needed n k x)) j b ≡ true
    → (k < j) × (j ≤ k + n) × (b ≡ down (span j) x)
unfolding needed
missing-only ts zero k x j b m = absurd (cc)
missing-only ts (suc n) k x j b m = by_test (made ts (suc k) (down (span (suc k)) x)) (λ later. missing-only ts n (suc k) x j b later) m
  where
    t : Table
    t = record { level = suc k; base = down (span (suc k)) x }

    rest : List Table
    rest = filter (λ t. not (made ts t.level t.base)) (needed n (suc k) x)

    more : (suc k < j) × (j ≤ suc k + n) × (b ≡ down (span j) x) → (k < j) × (j ≤ k + suc n) × (b ≡ down (span j) x)
    more e = (omega (arith, e.0), omega (arith, e.1), e.2)

    first : (suc k ≡ j) × (down (span (suc k)) x ≡ b) → (k < j) × (j ≤ k + suc n) × (b ≡ down (span j) x)
    first e = (omega (arith, e.0), omega (arith, e.0), sym e.1 ∙ ap (λ l. down (span l) x) e.0)

    by_test : (c : Bool) → (made rest j b ≡ true → (suc k < j) × (j ≤ suc k + n) × (b ≡ down (span j) x))
        → made (cond (not c) (t ∷ rest) rest) j b ≡ true → (k < j) × (j ≤ k + suc n) × (b ≡ down (span j) x)
    by_test true later m = more (later m)
    by_test false later m = elim (made-cases t rest j b m) [ inl e ↦ first e | inr there ↦ more (later there) ]

-- each table of those levels that covers x is made, or is missing
missing-all : (ts : List Table) (n k x j : ℕ) → k < j → j ≤ k + n
    → (made ts j (down (span j) x) ≡ true) ⊎ (made (filter (λ t. not (made ts t.level t.base)) (needed n k x)) j (down (span j) x) ≡ true)
unfolding needed
missing-all ts zero k x j lo hi = absurd (omega arith)
missing-all ts (suc n) k x j lo hi = by_level (eqb (suc k) j) (cases_Bool (eqb (suc k) j)) (λ up. missing-all ts n (suc k) x j up (omega arith))
  where
    t : Table
    t = record { level = suc k; base = down (span (suc k)) x }

    rest : List Table
    rest = filter (λ t. not (made ts t.level t.base)) (needed n (suc k) x)

    Goal : Bool → Type 0
    Goal c = (made ts j (down (span j) x) ≡ true) ⊎ (made (cond (not c) (t ∷ rest) rest) j (down (span j) x) ≡ true)

    same : suc k ≡ j → (c : Bool) → made ts (suc k) (down (span (suc k)) x) ≡ c → Goal c
    same e true is = inl (sym (ap (λ l. made ts l (down (span l) x)) e) ∙ is)
    same e false is = inr (sym (ap (λ l. made (t ∷ rest) l (down (span l) x)) e) ∙ made-here t rest)

    lifted : (c : Bool) → made rest j (down (span j) x) ≡ true → made (cond (not c) (t ∷ rest) rest) j (down (span j) x) ≡ true
    lifted true m = m
    lifted false m = made-there t rest j (down (span j) x) m

    by_level : (d : Bool) → (eqb (suc k) j ≡ true) ⊎ (eqb (suc k) j ≡ false)
        → (suc k < j → (made ts j (down (span j) x) ≡ true) ⊎ (made rest j (down (span j) x) ≡ true)) → Goal (made ts (suc k) (down (span (suc k)) x))
    by_level d (inl e) later = same (let f : suc k ≡ j = grind (arith, nat_tests) in f) (made ts (suc k) (down (span (suc k)) x)) refl
    by_level d (inr e) later = elim (later (let f : suc k < j = grind (arith, nat_tests) in f)) [
      | inl there ↦ inl there
      | inr m ↦ inr (lifted (made ts (suc k) (down (span (suc k)) x)) m)
    ]

pub made-missing : (start : ℕ) (ts : List Table) (l x j b : ℕ) → made (ts ++ missing start ts l x) j b ≡ true
    → (made ts j b ≡ true) ⊎ ((start < j) × (j ≤ start + (l - start)) × (b ≡ down (span j) x))
made-missing start ts l x j b m = elim (made-both ts (missing start ts l x) j b m) [
  | inl there ↦ inl there
  | inr new ↦ inr (missing-only ts (l - start) start x j b new)
]

pub there-after : (start : ℕ) (ts : List Table) (l x j : ℕ) → start < j → j ≤ l → made (ts ++ missing start ts l x) j (down (span j) x) ≡ true
there-after start ts l x j lo hi = elim (missing-all ts (l - start) start x j lo (omega arith)) [
  | inl there ↦ made-front ts (missing start ts l x) j (down (span j) x) there
  | inr new ↦ made-back ts (missing start ts l x) j (down (span j) x) new
]

-- ---- a block of which nothing is RAM

-- two addresses that one table of a deeper level covers are in one block
table-in-block : (l j x y : ℕ) → l < j → j ≤ 3 → x / span j ≡ y / span j → x / size l ≡ y / size l
table-in-block l zero x y o t h = absurd (omega arith)
table-in-block l (suc i) x y o t h =
    let lt : i < 3 = omega arith in
    let le : l ≤ i = omega arith in
    nest-le l i x y le (rw (span-size i lt) at h)

pub none-inside : (start l x : ℕ) (ts : List Table) (ram : List (ℕ × ℕ)) → IsFormed start ts → IsUsed ts ram → IsFresh ram l x
    → (j b : ℕ) → made ts j b ≡ true → l < j → b / size l ≡ x / size l → ⊥
none-inside start l x ts ram formed used fresh j b m deeper inside =
    let u = used.used j b m in
    let le : j ≤ 3 = (formed.placed.shape j b m).1 in
    let same : u.0 / size l ≡ b / size l = table-in-block l j (u.0) b deeper le (u.2) in
    let no : is_ram ram (u.0) ≡ false = fresh (u.0) (same ∙ inside) in
    let yes : is_ram ram (u.0) ≡ true = u.1 in
    cc

-- ---- where the walk ends

-- where no deeper table covers x, the walk ends at the level of the tables that were missing
pub walk-missing : (start l x : ℕ) (ts : List Table) → start ≤ l → ((j c : ℕ) → made ts j c ≡ true → l < j → x / span j ≡ c / span j → ⊥)
    → walk start (ts ++ missing start ts l x) x ≡ l
walk-missing start l x ts o none =
    walk-after start (ts ++ missing start ts l x) x l (down (span l) x) o
    (λ lt. (there-after start ts l x l lt (omega arith), sym (down-in (span l) x (span-pos l))))
    (λ j c m deeper covers. elim (made-missing start ts l x j c m) [
      | inl there ↦ none j c there deeper covers
      | inr new ↦ (let top : j ≤ start + (l - start) = new.1 in absurd (omega arith))
    ])

pub walk-fresh : (start l x : ℕ) (ts : List Table) (ram : List (ℕ × ℕ)) → start ≤ l → l ≤ 3 → IsFormed start ts → IsUsed ts ram → IsFresh ram l x
    → walk start (ts ++ missing start ts l x) x ≡ l
walk-fresh start l x ts ram o deep formed used fresh =
    walk-missing start l x ts o (λ j c m deeper covers.
    let le : j ≤ 3 = (formed.placed.shape j c m).1 in
    none-inside start l x ts ram formed used fresh j c m deeper (sym (table-in-block l j x c deeper le covers)))

pub walk-page : (start x : ℕ) (ts : List Table) → start < 3 → IsFormed start ts → walk start (ts ++ missing start ts 3 x) x ≡ 3
walk-page start x ts o formed =
    walk-missing start 3 x ts (omega arith) (λ j c m deeper covers. let le : j ≤ 3 = (formed.placed.shape j c m).1 in omega arith)

-- ---- what stays

pub placed-after : (start l x : ℕ) (ts : List Table) → l ≤ 3 → ArePlaced start ts → ArePlaced start (ts ++ missing start ts l x)
placed-after start l x ts deep placed = record {
  shape = λ j b m. elim (made-missing start ts l x j b m) [
    | inl there ↦ placed.shape j b there
    | inr new ↦ shaped j b new
  ];
}
  where
    shaped : (j b : ℕ) → (start < j) × (j ≤ start + (l - start)) × (b ≡ down (span j) x) → (start < j) × (j ≤ 3) × (down (span j) b ≡ b)
    shaped j b new =
        let lo : start < j = new.0 in
        let hi : j ≤ start + (l - start) = new.1 in
        (lo, omega arith, rw (new.2) (down-down (span j) x (span-pos j)))

pub formed-after : (start l x : ℕ) (ts : List Table) → l ≤ 3 → IsFormed start ts → IsFormed start (ts ++ missing start ts l x)
formed-after start l x ts deep formed = record {
  placed = placed-after start l x ts deep formed.placed;
  chain = λ j b m lt. elim (made-missing start ts l x (suc j) b m) [
    | inl there ↦ made-front ts (missing start ts l x) j (down (span j) b) (formed.chain j b there lt)
    | inr new ↦ chained j b new lt
  ];
}
  where
    chained : (j b : ℕ) → (start < suc j) × (suc j ≤ start + (l - start)) × (b ≡ down (span (suc j)) x) → start < j
        → made (ts ++ missing start ts l x) j (down (span j) b) ≡ true
    chained j b new lt =
        let hi : suc j ≤ start + (l - start) = new.1 in
        let e : down (span j) b ≡ down (span j) x = ap (down (span j)) (new.2) ∙ down-up j x in
        rw e (there-after start ts l x j lt (omega arith))

pub used-more : (ts : List Table) (ram more : List (ℕ × ℕ)) → IsUsed ts ram → ((y : ℕ) → is_ram ram y ≡ true → is_ram more y ≡ true) → IsUsed ts more
used-more ts ram more used grows = record { used = λ j b m. (let u = used.used j b m in (u.0, grows (u.0) (u.1), u.2)) }

pub used-after : (start l x : ℕ) (ts : List Table) (ram : List (ℕ × ℕ)) → IsUsed ts ram → is_ram ram x ≡ true → IsUsed (ts ++ missing start ts l x) ram
used-after start l x ts ram used here = record {
  used = λ j b m. elim (made-missing start ts l x j b m) [
    | inl there ↦ used.used j b there
    | inr new ↦ (x, here, rw (new.2) (sym (down-in (span j) x (span-pos j))))
  ];
}
