-- The tables that a block needs can be made one after another.
use Rattle.std.proofs.Common.{inl, inr, ◌≡◌, ℕ, zero, suc, ◌+◌, ◌-◌, ◌/◌, ◌<◌, ◌≤◌, ◌∙◌, sym, refl, arith, Bool, true, false, cond, not, eqb, ltb, ◌⊎◌, List}
use Rattle.std.proofs.Common.{[], ◌∷◌, ◌++◌}
use Rattle.std.specs.List.{filter}
use Rattle.std.proofs.lemmas.Bool.Decides.{nat_tests}
use Rattle.std.proofs.lemmas.Bool.{cases_Bool}
use Rattle.std.proofs.Math.Bool.{or-false}
use Rattle.rmm_model.specs.Blocks.{down, span}
use Rattle.rmm_model.specs.Space.{made, walk}
use Rattle.rmm_model.specs.declared.table.Table.{Table}
use Rattle.rmm_model.proofs.AppendedSpaces.{made-append, made-back, made-both, made-front}
use Rattle.rmm_model.proofs.BlockArithmetic.{down-down, down-in, down-same, down-up, span-nest, span-pos}
use Rattle.rmm_model.proofs.EndsOfWalks.{made-cases, made-here, walk-after}
use Rattle.rtt_plan.specs.Agreement.{IsFormed}
use Rattle.rtt_plan.specs.InTurn.{AreMadeInTurn, CanBeMade}
use Rattle.rtt_plan.specs.Missing.{needed, missing}

-- where a table d levels deeper covers an address of table (j, b), that table is made
closed : (start : ℕ) (ts : List Table) → IsFormed start ts → (d j b c : ℕ) → start < j → down (span j) b ≡ b
    → made ts (j + d) c ≡ true → b / span (j + d) ≡ c / span (j + d) → made ts j b ≡ true
closed start ts formed zero j b c o at m h =
    let e : j + 0 ≡ j = omega arith in
    let m2 : made ts j c ≡ true = rw e at m in
    let h2 : b / span j ≡ c / span j = rw e at h in
    let s : down (span j) c ≡ c = (formed.placed.shape j c m2).2 in
    let same : c ≡ b = sym s ∙ (down-same (span j) c b (sym h2) ∙ at) in
    rw same at m2
closed start ts formed (suc d) j b c o at m h =
    let e : j + suc d ≡ suc (j + d) = omega arith in
    let m2 : made ts (suc (j + d)) c ≡ true = rw e at m in
    let h2 : b / span (suc (j + d)) ≡ c / span (suc (j + d)) = rw e at h in
    let up : made ts (j + d) (down (span (j + d)) c) ≡ true = formed.chain (j + d) c m2 (omega arith) in
    let s : b / span (j + d) ≡ c / span (j + d) = span-nest (j + d) b c h2 in
    closed start ts formed d j b (down (span (j + d)) c) o at up (s ∙ sym (down-in (span (j + d)) c (span-pos (j + d))))

-- the walk of the first address of a table that is not made ends one level above it, where the table above it is made
pub walk-above : (start : ℕ) (ts : List Table) (j b : ℕ) → IsFormed start ts → start ≤ j → down (span (suc j)) b ≡ b
    → (start < j → made ts j (down (span j) b) ≡ true) → made ts (suc j) b ≡ false → walk start ts b ≡ j
walk-above start ts j b formed o at above out =
    walk-after start ts b j (down (span j) b) o
    (λ lt. (above lt, sym (down-in (span j) b (span-pos j))))
    (λ i c m lt h.
    let e : i ≡ suc j + (i - suc j) = omega arith in
    let in_list : made ts (suc j) b ≡ true = closed start ts formed (i - suc j) (suc j) b c (omega arith) at (rw e at m) (rw e at h) in
    cc)

-- tables stay formed with one more whose table above is made
pub formed-more : (start : ℕ) (ts : List Table) (t : Table) (j : ℕ) → IsFormed start ts → t.level ≡ suc j → start ≤ j → j < 3
    → down (span (suc j)) t.base ≡ t.base → (start < j → made ts j (down (span j) t.base) ≡ true) → IsFormed start (ts ++ t ∷ [])
formed-more start ts t j formed level o deep at above = record {
  placed = record {
    shape = λ k c m. elim (made-both ts (t ∷ []) k c m) [
      | inl w ↦ formed.placed.shape k c w
      | inr n ↦ elim (made-cases t [] k c n) [
        | inl w ↦ (let e : k ≡ suc j = omega (arith, w.0) in let f : c ≡ t.base = sym (w.1) in rw (e, f) (omega arith, omega arith, at))
        | inr w ↦ absurd (cc)
      ]
    ];
  };
  chain = λ k c m lt. elim (made-both ts (t ∷ []) (suc k) c m) [
    | inl w ↦ made-front ts (t ∷ []) k (down (span k) c) (formed.chain k c w lt)
    | inr n ↦ elim (made-cases t [] (suc k) c n) [
      | inl w ↦
          let e : k ≡ j = omega (arith, w.0) in
          let f : c ≡ t.base = sym (w.1) in
          let lt2 : start < j = omega arith in
          made-front ts (t ∷ []) k (down (span k) c) (rw (e, f) (above lt2))
      | inr w ↦ absurd (cc)
    ]
  ];
}

other-level : (us : List Table) (t : Table) (j b : ℕ) → t.level < j → made (us ++ t ∷ []) j b ≡ made us j b
other-level us t j b lt =
    let e : eqb t.level j ≡ false = grind (arith, nat_tests) in
    let n : made (t ∷ []) j b ≡ false = rw e refl in
    made-append us (t ∷ []) j b ∙ rw n (or-false (made us j b))

-- the tables of the n levels below k, where `us` is what is made by then: `ts`, and the tables of levels up to k
between : (start : ℕ) (ts us : List Table) (n k x : ℕ) → IsFormed start us → start ≤ k → k + n ≤ 3
    → (start < k → made us k (down (span k) x) ≡ true) → ((j b : ℕ) → k < j → made us j b ≡ made ts j b)
    → AreMadeInTurn start us (filter (λ t. not (made ts t.level t.base)) (needed n k x))
unfolding needed AreMadeInTurn
between start ts us zero k x formed o deep above same = tt
between start ts us (suc n) k x formed o deep above same =
    by_test (λ vs f a r. between start ts vs n (suc k) x f (omega arith) (omega arith) a r) (made ts (suc k) (down (span (suc k)) x)) refl
  where
    b : ℕ
    b = down (span (suc k)) x

    t : Table
    t = record { level = suc k; base = b }

    rest : List Table
    rest = filter (λ t. not (made ts t.level t.base)) (needed n (suc k) x)

    at : down (span (suc k)) b ≡ b
    at = down-down (span (suc k)) x (span-pos (suc k))

    over : start < k → made us k (down (span k) b) ≡ true
    over lt = rw (down-up k x) (above lt)

    by_test :
        ((vs : List Table) → IsFormed start vs → (start < suc k → made vs (suc k) b ≡ true) → ((j c : ℕ) → suc k < j → made vs j c ≡ made ts j c)
        → AreMadeInTurn start vs rest)
        → (c : Bool) → made ts (suc k) b ≡ c → AreMadeInTurn start us (cond (not c) (t ∷ rest) rest)
    by_test later true h = later us formed (λ lt. same (suc k) b (omega arith) ∙ h) (λ j c lt. same j c (omega arith))
    by_test later false h =
        let e : suc k - 1 ≡ k = omega arith in
        let first : CanBeMade start us t = record {
          level = omega arith;
          deepest = omega arith;
          base_at = at;
          above = rw e (walk-above start us k b formed o at over (same (suc k) b (omega arith) ∙ h));
        } in (
          first,
          later (us ++ t ∷ []) (formed-more start us t k formed refl o (omega arith) at over)
              (λ lt. made-back us (t ∷ []) (suc k) b (made-here t []))
              (λ j c lt. other-level us t j c lt ∙ same j c (omega arith)),
        )

pub missing-in-turn : (start l x : ℕ) (ts : List Table) → l ≤ 3 → IsFormed start ts → AreMadeInTurn start ts (missing start ts l x)
unfolding needed AreMadeInTurn
missing-in-turn start l x ts deep formed = by_level (cases_Bool (ltb l start))
  where
    by_level : (ltb l start ≡ true) ⊎ (ltb l start ≡ false) → AreMadeInTurn start ts (missing start ts l x)
    by_level (inl h) = (let lt : l < start = grind (arith, nat_tests) in let e : l - start ≡ 0 = omega arith in rw e tt)
    by_level (inr h) =
        (let le : start ≤ l = grind (arith, nat_tests) in between start ts ts (l - start) start x formed (omega arith) (omega arith)
        (λ lt. absurd (omega arith)) (λ j b lt. refl))
