-- The end of a run, computed: the entries of one table whose blocks end in the region have one level.
use Rattle.std.proofs.Common.{inl, inr, ◌≡◌, ℕ, zero, suc, ◌+◌, ◌-◌, ◌*◌, ◌/◌, ◌<◌, ◌≤◌, ◌∙◌, sym, refl, ap, arith, true, false, ◌&&◌, eqb, min, ◌∷◌}
use Rattle.std.proofs.lemmas.Bool.{cases_Bool, cases_lt}
use Rattle.std.proofs.lemmas.Bool.Decides.{nat_tests}
use Rattle.rmm_model.specs.Blocks.{down, size, span}
use Rattle.rmm_model.proofs.BlockArithmetic.{down-down, down-le, down-lt, down-same, in-block, nest-le, size-pos, span-pos, span-size}
use Rattle.std.proofs.Math.Nat.{eq-or-lt_of_le, mul-le-mul_right, mul_comm}
use Rattle.rtt_plan.specs.Entries.{block_level, first_fit, fits}
use Rattle.rtt_plan.specs.Places.{AtEntry, IsRegion}
use Rattle.rtt_plan.specs.Runs.{runs_from}
use Rattle.rtt_plan.proofs.LargestBlocks.{block-fits, first-at, first_fit-from, first_fit-to, fits-is, fits-low, fits-same}
use Rattle.rtt_plan.proofs.RunsCoverRegion.{entry-in-table}
use Rattle.rtt_plan.proofs.GrowingRuns.{IsGrowing, closed-apart, closed-end, grow-more, grow-start}
use Rattle.rtt_plan.proofs.RoundingToBlocks.{down-next, down-part, le-down, multiple-down}
use Rattle.rtt_plan.proofs.EntryByEntry.{entry-fits}

-- an address has the level of another, where its block of this level fits and no level above it parts the two
first_fit-beside : (base end n l x y : ℕ) → ((m : ℕ) → m < first_fit base end n l x → x / size m ≡ y / size m)
    → fits base end (first_fit base end n l x) y ≡ true → first_fit base end n l y ≡ first_fit base end n l x
unfolding first_fit
first_fit-beside base end zero l x y = λ above fit. refl
first_fit-beside base end (suc n) l x y =
    elim (cases_Bool (fits base end l x)) [
      | inl t ↦ rw t (λ above fit. rw fit refl)
      | inr f ↦ rw f (λ above fit.
          let up : suc l ≤ first_fit base end n (suc l) x = first_fit-from base end n (suc l) x in
          let s : x / size l ≡ y / size l = above l (omega arith) in
          rw (sym (fits-same base end l x y s) ∙ f) (first_fit-beside base end n (suc l) x y above fit))
    ]

-- addresses that one table of a level covers are in one block of each level above
above-table : (l m x y : ℕ) → l ≤ 3 → m < l → x / span l ≡ y / span l → x / size m ≡ y / size m
above-table zero m x y deep lt same = absurd (omega arith)
above-table (suc k) m x y deep lt same = nest-le m k x y (omega arith) (rw (span-size k (omega arith)) at same)

-- the entries after x in its table have its level, as long as their blocks end in the region
level-beside : (base end least_level x y : ℕ) → least_level ≤ 3 → x / span (block_level base end least_level x) ≡ y / span (block_level base end least_level x)
    → fits base end (block_level base end least_level x) y ≡ true → block_level base end least_level y ≡ block_level base end least_level x
level-beside base end least_level x y low same fit =
    let to : block_level base end least_level x ≤ least_level + (3 - least_level) = first_fit-to base end (3 - least_level) least_level x in
    first_fit-beside base end (3 - least_level) least_level x y
    (λ m lt. above-table (block_level base end least_level x) m x y (omega arith) lt same) fit

next-level : (base end least_level x y l : ℕ) → least_level ≤ 3 → block_level base end least_level x ≡ l → y / span l ≡ x / span l → fits base end l y ≡ true
    → block_level base end least_level y ≡ l
next-level base end least_level x y l low level same fit =
    level-beside base end least_level x y low (rw level (sym same)) (rw level fit) ∙ level

-- ---- the entries of a run

-- some blocks after a block's first address comes the first address of a block
blocks-after : (s x n : ℕ) → 0 < s → down s x ≡ x → down s (x + s * n) ≡ x + s * n
blocks-after s x n p at =
    let e : x + s * n ≡ (x / s + n) * s = omega (arith, at, mul_comm s n) in
    rw e (multiple-down s (x / s + n) x p)

-- a run grows block by block, as far as its table and the region go
grown : (base end least_level x l n : ℕ) → IsRegion base end → least_level ≤ 3 → AtEntry base end least_level x → x < end → block_level base end least_level x ≡ l
    → x + size l * suc n ≤ down (span l) x + span l → x + size l * suc n ≤ end
    → IsGrowing base end least_level (record { base = x; top = x + size l * suc n; level = l })
grown base end least_level x l zero region low at some level table inside =
    let e : x + size l * suc zero ≡ x + size l = omega arith in
    rw e (grow-start base end least_level x l (size l) region low at some (sym level) refl)
grown base end least_level x l (suc n) region low at some level table inside =
    let y : ℕ = x + size l * suc n in
    let e : x + size l * suc (suc n) ≡ y + size l = omega arith in
    let p : 0 < size l = size-pos l in
    let growing : IsGrowing base end least_level (record { base = x; top = y; level = l }) = grown base end least_level x l n region low at some level (omega arith) (omega arith) in
    let here : down (size l) x ≡ x = rw level at (first-at base end least_level x (at.first some)) in
    let there : down (size l) y ≡ y = blocks-after (size l) x (suc n) p here in
    let begin : base ≤ x = at.low in
    let back : down (span l) x ≤ x = down-le (span l) x in
    let same : y / span l ≡ x / span l = in-block (span l) x y (omega arith) (omega arith) in
    let fit : fits base end l y ≡ true = fits-is base end l y (omega arith) (omega arith) in
    let beside : block_level base end least_level y ≡ l = next-level base end least_level x y l low level same fit in
    rw e (grow-more base end least_level (size l) (record { base = x; top = y; level = l }) region low growing (omega arith) refl (grind (arith, nat_tests)))

-- where a run ends: with its table, or with the last block of its level that the region has
abbrev run_end : ℕ → ℕ → ℕ → ℕ
run_end end l x = min (down (span l) x + span l) (down (size l) end)

-- so far there are whole blocks of the run, one or more
whole-blocks : (s x top : ℕ) → 0 < s → down s x ≡ x → down s top ≡ top → x + s ≤ top → (n : ℕ) × (x + s * suc n ≡ top)
whole-blocks s x top p at to room =
    let lt : x / s * s < top / s * s = omega arith in
    let q : x / s < top / s = less-factor (x / s) (top / s) s lt in
    let e : top / s ≡ x / s + suc (top / s - x / s - 1) = omega arith in
    let f : top / s * s ≡ (x / s + suc (top / s - x / s - 1)) * s = ap (λ (n : ℕ). n * s) e in
    (top / s - x / s - 1, omega (arith, mul_comm s (suc (top / s - x / s - 1))))
  where
    less-factor : (a b s : ℕ) → a * s < b * s → a < b
    less-factor a b s h = elim (cases_lt a b) [
      | inl lt ↦ lt
      | inr ge ↦ absurd (let m : b * s ≤ a * s = mul-le-mul_right s ge in omega arith)
    ]

run-apart : (base end least_level x l top : ℕ) → IsRegion base end → least_level ≤ 3 → base ≤ top → top < end → down (size l) top ≡ top → top ≡ run_end end l x
    → false ≡ (eqb (block_level base end least_level top) l && eqb (top / span l) (x / span l))
run-apart base end least_level x l top region low from some at to =
    elim (cases_Bool (eqb (block_level base end least_level top) l && eqb (top / span l) (x / span l))) [
      | inr f ↦ sym f
      | inl t ↦
          let level : block_level base end least_level top ≡ l = grind (arith, nat_tests) in
          let table : top / span l ≡ x / span l = grind (arith, nat_tests) in
          let fit : fits base end l top ≡ true = rw level at (block-fits base end least_level top region low from some) in
          let inside : down (size l) top + size l ≤ end = (fits-low base end l top fit).1 in
          let past : end < down (size l) end + size l = down-lt (size l) end (size-pos l) in
          let same : down (span l) top ≡ down (span l) x = down-same (span l) top x table in
          let in_table : top < down (span l) top + span l = down-lt (span l) top (span-pos l) in
          absurd (omega arith)
    ]

pub record IsLongest (base end least_level x l top : ℕ) : Type 0 where
  pub runs : runs_from base end least_level x ≡ record { base = x; top = top; level = l } ∷ runs_from base end least_level top
  pub next : AtEntry base end least_level top
  pub grows : x < top

-- THE END OF A RUN
pub longest : (base end least_level x l top : ℕ) → IsRegion base end → least_level ≤ 3 → AtEntry base end least_level x → x < end → block_level base end least_level x ≡ l
    → top ≡ run_end end l x → IsLongest base end least_level x l top
longest base end least_level x l top region low at some level to =
    let p : 0 < size l = size-pos l in
    let ps : 0 < span l = span-pos l in
    let here : down (size l) x ≡ x = rw level at (first-at base end least_level x (at.first some)) in
    let inside : x + size l ≤ end = rw level at (entry-fits base end least_level x region low at some) in
    let block : x + size l ≤ down (size l) end = le-down (size l) (x + size l) end p (down-next (size l) x p here) inside in
    let table : x + size l ≤ down (span l) x + span l = entry-in-table l x here in
    let multiple : down (span l) (down (span l) x + span l) ≡ down (span l) x + span l = down-next (span l) (down (span l) x) ps (multiple-down (span l) (x / span l) x ps) in
    let table_at : down (size l) (down (span l) x + span l) ≡ down (span l) x + span l = down-part (size l) 512 (down (span l) x + span l) p multiple in
    let end_at : down (size l) (down (size l) end) ≡ down (size l) end = down-down (size l) end p in
    let below : down (size l) end ≤ end = down-le (size l) end in
    let there : down (size l) top ≡ top = rw to (min-multiple (size l) (down (span l) x + span l) (down (size l) end) table_at end_at) in
    let n = whole-blocks (size l) x top p here there (omega arith) in
    let e : x + size l * suc (n.0) ≡ top = n.1 in
    let growing : IsGrowing base end least_level (record { base = x; top = top; level = l }) = rw e at (grown base end least_level x l (n.0) region low at some level (omega arith) (omega arith)) in
    let begin : base ≤ x = at.low in
    record {
      runs = elim (eq-or-lt_of_le growing.at.high) [
        | inl last ↦ closed-end base end least_level (record { base = x; top = top; level = l }) growing (omega arith)
        | inr more ↦ closed-apart base end least_level (record { base = x; top = top; level = l }) region low growing more
            (run-apart base end least_level x l top region low (omega arith) more there to)
      ];
      next = growing.at;
      grows = growing.grows;
    }
  where
    min-multiple : (s a b : ℕ) → down s a ≡ a → down s b ≡ b → down s (min a b) ≡ min a b
    min-multiple s a b p q = elim (cases_lt a b) [
      | inl lt ↦ let e : min a b ≡ a = omega arith in rw e p
      | inr ge ↦ let e : min a b ≡ b = omega arith in rw e q
    ]
