-- The largest block of an address fits in the region, and no larger one does.
use Rattle.std.proofs.Common.{inl, inr, ◌≡◌, ℕ, zero, suc, ◌+◌, ◌-◌, ◌/◌, ◌%◌, ◌<◌, ◌≤◌, ◌∙◌, sym, refl, arith, true, false, eqb}
use Rattle.std.proofs.lemmas.Bool.Decides.{nat_tests}
use Rattle.rmm_model.specs.Blocks.{down, size}
use Rattle.rmm_model.proofs.BlockArithmetic.{down-down, down-le, down-lt, in-block, nest-le, size-pos}
use Rattle.std.proofs.Math.Nat.{eq-or-lt_of_le}
use Rattle.std.proofs.lemmas.Bool.{cases_Bool, cases_lt}
use Rattle.rtt_plan.specs.Entries.{block_level, first_fit, fits, is_first}
use Rattle.rtt_plan.specs.Places.{IsRegion}
use Rattle.rtt_plan.proofs.RoundingToBlocks.{down-next, down-size, down-top, le-down}

-- whether a block fits is said of the block alone
pub fits-same : (base end l x y : ℕ) → x / size l ≡ y / size l → fits base end l x ≡ fits base end l y
fits-same base end l x y h = rw h refl

-- what fits says
pub fits-low : (base end l x : ℕ) → fits base end l x ≡ true → (base ≤ down (size l) x) × (down (size l) x + size l ≤ end)
fits-low base end l x h = (grind (arith, nat_tests), grind (arith, nat_tests))

pub fits-is : (base end l x : ℕ) → base ≤ down (size l) x → down (size l) x + size l ≤ end → fits base end l x ≡ true
fits-is base end l x lo hi = grind (arith, nat_tests)

pub first_fit-from : (base end n l x : ℕ) → l ≤ first_fit base end n l x
unfolding first_fit
first_fit-from base end zero l x = omega arith
first_fit-from base end (suc n) l x =
    elim (cases_Bool (fits base end l x)) [
      | inl h ↦ rw h (omega arith)
      | inr h ↦ rw h (let i : suc l ≤ first_fit base end n (suc l) x = first_fit-from base end n (suc l) x in omega arith)
    ]

pub first_fit-to : (base end n l x : ℕ) → first_fit base end n l x ≤ l + n
unfolding first_fit
first_fit-to base end zero l x = omega arith
first_fit-to base end (suc n) l x =
    elim (cases_Bool (fits base end l x)) [
      | inl h ↦ rw h (omega arith)
      | inr h ↦ rw h (let i : first_fit base end n (suc l) x ≤ suc l + n = first_fit-to base end n (suc l) x in omega arith)
    ]

-- the largest block of x fits, where the last one does
pub first_fit-fits : (base end n l x : ℕ) → fits base end (l + n) x ≡ true → fits base end (first_fit base end n l x) x ≡ true
unfolding first_fit
first_fit-fits base end zero l x last = let e : l + 0 ≡ l = omega arith in rw e at last
first_fit-fits base end (suc n) l x last =
    elim (cases_Bool (fits base end l x)) [
      | inl h ↦ rw h h
      | inr h ↦ rw h (first_fit-fits base end n (suc l) x (let e : l + suc n ≡ suc l + n = omega arith in rw e at last))
    ]

-- the block of x is the block of each y in it
pub first_fit-same : (base end n l x y : ℕ) → x / size (first_fit base end n l x) ≡ y / size (first_fit base end n l x) → first_fit base end n l y ≡ first_fit base end n l x
unfolding first_fit
first_fit-same base end zero l x y = λ h. refl
first_fit-same base end (suc n) l x y =
    elim (cases_Bool (fits base end l x)) [
      | inl t ↦ rw t (λ h. rw (sym (fits-same base end l x y h) ∙ t) refl)
      | inr f ↦ rw f (λ h.
          let up : suc l ≤ first_fit base end n (suc l) x = first_fit-from base end n (suc l) x in
          let le : l ≤ first_fit base end n (suc l) x = omega arith in
          let s : x / size l ≡ y / size l = nest-le l (first_fit base end n (suc l) x) x y le h in
          rw (sym (fits-same base end l x y s) ∙ f) (first_fit-same base end n (suc l) x y h))
    ]

-- no block that is larger fits
pub first_fit-least : (base end n l m x : ℕ) → l ≤ m → fits base end m x ≡ true → first_fit base end n l x ≤ m
unfolding first_fit
first_fit-least base end zero l m x o h = o
first_fit-least base end (suc n) l m x o h =
    elim (cases_Bool (fits base end l x)) [
      | inl t ↦ rw t o
      | inr f ↦ rw f (elim (cases_Bool (eqb l m)) [
        | inl e ↦ absurd (let q : l ≡ m = grind (arith, nat_tests) in let z : fits base end m x ≡ false = rw q at f in cc)
        | inr e ↦ first_fit-least base end n (suc l) m x (grind (arith, nat_tests)) h
      ])
    ]

pub first-at : (base end least_level x : ℕ) → is_first base end least_level x ≡ true → down (size (block_level base end least_level x)) x ≡ x
first-at base end least_level x first = grind (arith, nat_tests)

pub page-fits : (base end x : ℕ) → IsRegion base end → base ≤ x → x < end → fits base end 3 x ≡ true
page-fits base end x region lo hi =
    fits-is base end 3 x (le-down (size 3) base x (size-pos 3) region.base_at lo) (down-top (size 3) x end (size-pos 3) region.end_at hi)

-- the largest block of x lies in the region
pub block-fits : (base end least_level x : ℕ) → IsRegion base end → least_level ≤ 3 → base ≤ x → x < end → fits base end (block_level base end least_level x) x ≡ true
block-fits base end least_level x region low lo hi =
    let e : 3 ≡ least_level + (3 - least_level) = omega arith in
    first_fit-fits base end (3 - least_level) least_level x (rw e at (page-fits base end x region lo hi))

is-first : (base end least_level x : ℕ) → down (size (block_level base end least_level x)) x ≡ x → is_first base end least_level x ≡ true
is-first base end least_level x h = grind (arith, nat_tests)

-- the region's first page is the first of its block
pub base-first : (base end least_level : ℕ) → IsRegion base end → least_level ≤ 3 → base < end → is_first base end least_level base ≡ true
base-first base end least_level region low some =
    let f : (base ≤ down (size (block_level base end least_level base)) base) × (down (size (block_level base end least_level base)) base + size (block_level base end least_level base) ≤ end)
    = fits-low base end (block_level base end least_level base) base (block-fits base end least_level base region low (omega arith) some) in
    let d : down (size (block_level base end least_level base)) base ≤ base = down-le (size (block_level base end least_level base)) base in
    is-first base end least_level base (omega arith)

-- the page after a block is the first of its own block
pub next-first : (base end least_level x : ℕ) → IsRegion base end → least_level ≤ 3 → base ≤ x → is_first base end least_level x ≡ true
    → x + size (block_level base end least_level x) < end → is_first base end least_level (x + size (block_level base end least_level x)) ≡ true
next-first base end least_level x region low lo first hi =
    let m : ℕ = block_level base end least_level x in
    let z : ℕ = x + size m in
    let k : ℕ = block_level base end least_level z in
    let at : down (size m) x ≡ x = first-at base end least_level x first in
    let p : 0 < size m = size-pos m in
    let pk : 0 < size k = size-pos k in
    let atz : down (size m) z ≡ z = down-next (size m) x p at in
    is-first base end least_level z (elim (cases_lt k m) [
      | inr ge ↦ down-size m k z ge atz
      | inl lt ↦ elim (eq-or-lt_of_le (down-le (size k) z)) [
        | inl same ↦ same
        | inr less ↦
            let dd : down (size k) (down (size k) z) ≡ down (size k) z = down-down (size k) z pk in
            let dm : down (size m) (down (size k) z) ≡ down (size k) z = down-size k m (down (size k) z) (omega arith) dd in
            let far : down (size m) (down (size k) z) + size m ≤ z = down-top (size m) (down (size k) z) z p atz less in
            let top : z < down (size k) z + size k = down-lt (size k) z pk in
            let same : x / size k ≡ z / size k = in-block (size k) z x (omega arith) (omega arith) in
            let f : fits base end k z ≡ true = block-fits base end least_level z region low (omega arith) hi in
            let g : fits base end k x ≡ true = fits-same base end k x z same ∙ f in
            let from : least_level ≤ k = first_fit-from base end (3 - least_level) least_level z in
            let least : m ≤ k = first_fit-least base end (3 - least_level) least_level k x from g in
            absurd (omega arith)
      ]
    ])

-- the search for a fitting level, one step at a time
pub first_fit-here : (base end l x : ℕ) → l < 3 → fits base end l x ≡ true → first_fit base end (3 - l) l x ≡ l
unfolding first_fit
first_fit-here base end l x low fit = let e : 3 - l ≡ suc (2 - l) = omega arith in rw e (rw fit refl)

pub first_fit-next : (base end l x : ℕ) → l < 3 → fits base end l x ≡ false → first_fit base end (3 - l) l x ≡ first_fit base end (3 - (l + 1)) (l + 1) x
unfolding first_fit
first_fit-next base end l x low unfit =
    let e : 3 - l ≡ suc (2 - l) = omega arith in
    let f : 3 - (l + 1) ≡ 2 - l = omega arith in
    let g : l + 1 ≡ suc l = omega arith in
    rw (e, f, g) (rw unfit refl)

pub first_fit-end : (base end l x : ℕ) → l ≡ 3 → first_fit base end (3 - l) l x ≡ 3
unfolding first_fit
first_fit-end base end l x e = rw e refl

-- a region of multiples of a page
pub whole-region : (base end : ℕ) → base % 4096 ≡ 0 → end % 4096 ≡ 0 → IsRegion base end
unfolding size
whole-region base end b e = record { base_at = omega arith; end_at = omega arith }
