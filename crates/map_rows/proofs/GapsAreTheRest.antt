-- The gaps that rising stretches leave are all that the stretches have not.
use Rattle.std.proofs.Common.{◌≡◌, ◌∙◌, ℕ, ◌+◌, ◌<◌, ◌≤◌, Bool, true, false, not, ◌&&◌, ◌||◌}
use Rattle.std.proofs.Common.{List, [], ◌∷◌, suc, refl, ap, sym, subst, arith, min, max, nat_le, nat_lt}
use Rattle.std.specs.Prelude.{if◌then◌else◌, slice_index_or}
use Rattle.std.specs.Cmp.{nat_cmp_is}
use Rattle.std.specs.Ordering.{is_lt, nat_cmp}
use Rattle.std.specs.declared.cmp.Ordering.TheVariants.{Less}
use Rattle.std.specs.List.Sorted.{IsSortedByKey}
use Rattle.std.proofs.lemmas.Bool.Decides.{nat_tests}
use Rattle.std.proofs.lemmas.List.Folds.{list_any-append}
use Rattle.std.proofs.lemmas.List.Sorted.{list_any-IsPermutation}
use Rattle.map_rows.specs.Stretches.{GapsAreInside, GapsAreTheRest, gaps_of, holds, is_in, piece}
use Rattle.map_rows.specs.declared.stretches.Stretch.{Stretch}

-- stretches that begin at an address or after it, each where the one before does or after it
abbrev Rises : ℕ → List Stretch → Type 0
Rises low [] = Unit {0}
Rises low (s ∷ ss) = (low ≤ s.base) × Rises s.base ss

-- an address is in a piece where it is between its ends
in-piece : (base end a : ℕ) → is_in (piece base end) a ≡ (nat_le base a && nat_lt a end)
in-piece base end a = go (nat_lt base end) refl
  where
    go : (b : Bool) → nat_lt base end ≡ b → is_in (if b then record { base = base; end = end } ∷ [] else []) a ≡ (nat_le base a && nat_lt a end)
    go true is = or-false (nat_le base a && nat_lt a end)
      where
        or-false : (c : Bool) → (c || false) ≡ c
        or-false true = refl
        or-false false = refl
    go false is = sym (none (nat_le base a) (nat_lt a end) refl refl)
      where
        none : (c d : Bool) → nat_le base a ≡ c → nat_lt a end ≡ d → (c && d) ≡ false
        none false d is_c is_d = refl
        none true false is_c is_d = refl
        none true true is_c is_d = absurd (grind (arith, nat_tests))

-- an address below all stretches is in none
none-below : (a low : ℕ) (ss : List Stretch) → Rises low ss → a < low → is_in ss a ≡ false
none-below a low [] rises below = refl
none-below a low (s ∷ ss) rises below =
    ap (λ (b : Bool). b || is_in ss a) (before (nat_le s.base a) refl) ∙ none-below a s.base ss rises.1 (omega (arith, rises.0, below))
  where
    before : (b : Bool) → nat_le s.base a ≡ b → holds a s ≡ false
    before false is = ap (λ (b : Bool). b && nat_lt a s.end) is
    before true is = absurd (let low_base : low ≤ s.base = rises.0 in grind (arith, nat_tests))

-- and in no gap of those that begin after it
no-gap-below : (at end a : ℕ) (ss : List Stretch) → a < at → is_in (gaps_of at end ss) a ≡ false
no-gap-below at end a [] below = in-piece at end a ∙ ap (λ (b : Bool). b && nat_lt a end) (let off : nat_le at a ≡ false = grind (arith, nat_tests) in off)
no-gap-below at end a (s ∷ ss) below =
    list_any-append (holds a) (piece at (min s.base end)) (gaps_of (max at s.end) end ss)
    ∙ ap (λ (b : Bool). b || is_in (gaps_of (max at s.end) end ss) a) (in-piece at (min s.base end) a ∙ ap (λ (b : Bool). b && nat_lt a (min s.base end)) off)
    ∙ no-gap-below (max at s.end) end a ss (omega (arith, below))
  where
    off : nat_le at a ≡ false
    off = grind (arith, nat_tests)

in-gap : (at end a low : ℕ) (ss : List Stretch) → Rises low ss → at ≤ a → a < end → is_in (gaps_of at end ss) a ≡ not (is_in ss a)
in-gap at end a low [] rises from to =
    let begun : nat_le at a ≡ true = grind (arith, nat_tests) in
    let open_ : nat_lt a end ≡ true = grind (arith, nat_tests) in
    in-piece at end a ∙ ap (λ (b : Bool). b && nat_lt a end) begun ∙ open_
in-gap at end a low (s ∷ ss) rises from to =
    list_any-append (holds a) (piece at (min s.base end)) (gaps_of (max at s.end) end ss)
    ∙ ap (λ (b : Bool). b || is_in (gaps_of (max at s.end) end ss) a) (in-piece at (min s.base end) a)
    ∙ by-base (nat_le s.base a) refl (λ later. in-gap (max at s.end) end a s.base ss rises.1 (omega (arith, from, later)) to)
  where
    begun : nat_le at a ≡ true
    begun = grind (arith, nat_tests)

    by-end : (b : Bool) → nat_lt a s.end ≡ b → (s.end ≤ a → is_in (gaps_of (max at s.end) end ss) a ≡ not (is_in ss a))
        → is_in (gaps_of (max at s.end) end ss) a ≡ not (b || is_in ss a)
    by-end true is later =
        let within : a < s.end = grind (arith, nat_tests) in
        no-gap-below (max at s.end) end a ss (omega (arith, within))
    by-end false is later = later (let past : s.end ≤ a = grind (arith, nat_tests) in past)

    by-base : (b : Bool) → nat_le s.base a ≡ b → (s.end ≤ a → is_in (gaps_of (max at s.end) end ss) a ≡ not (is_in ss a))
        → ((nat_le at a && nat_lt a (min s.base end)) || is_in (gaps_of (max at s.end) end ss) a) ≡ not ((b && nat_lt a s.end) || is_in ss a)
    by-base true is later =
        let past : nat_lt a (min s.base end) ≡ false = grind (arith, nat_tests) in
        rw (begun, past) (by-end (nat_lt a s.end) refl later)
    by-base false is later =
        let before : nat_lt a (min s.base end) ≡ true = grind (arith, nat_tests) in
        let none : is_in ss a ≡ false = none-below a s.base ss rises.1 (grind (arith, nat_tests)) in
        rw (begun, before, none) refl

-- each gap is between the two addresses
pub inside : GapsAreInside
inside base end a [] at = parts (nat_le base a) (nat_lt a end) refl refl (sym (in-piece base end a) ∙ at)
  where
    parts : (b c : Bool) → nat_le base a ≡ b → nat_lt a end ≡ c → (b && c) ≡ true → (base ≤ a) × (a < end)
    parts true true is_b is_c both = (grind (arith, nat_tests), grind (arith, nat_tests))
    parts true false is_b is_c both = absurd (cc)
    parts false c is_b is_c both = absurd (cc)
inside base end a (s ∷ ss) at =
    parts (nat_le base a) (nat_lt a (min s.base end)) (is_in (gaps_of (max base s.end) end ss) a) refl refl
    (ap (λ (b : Bool). b || is_in (gaps_of (max base s.end) end ss) a) (sym (in-piece base (min s.base end) a))
    ∙ sym (list_any-append (holds a) (piece base (min s.base end)) (gaps_of (max base s.end) end ss)) ∙ at)
    (inside (max base s.end) end a ss)
  where
    parts : (b c d : Bool) → nat_le base a ≡ b → nat_lt a (min s.base end) ≡ c → ((b && c) || d) ≡ true
        → (d ≡ true → (max base s.end ≤ a) × (a < end)) → (base ≤ a) × (a < end)
    parts true true d is_b is_c both later = (grind (arith, nat_tests), grind (arith, nat_tests))
    parts true false d is_b is_c both later = let rest = later both in (omega (arith, rest.0), rest.1)
    parts false c d is_b is_c both later = let rest = later both in (omega (arith, rest.0), rest.1)

-- ---- stretches by rising bases

-- the test by which a list is sorted, of two of its elements
not-less : (low high : ℕ) → is_lt (nat_cmp high low) ≡ false → low ≤ high
not-less low high falls = go (nat_lt high low) refl
  where
    go : (b : Bool) → nat_lt high low ≡ b → low ≤ high
    go true is =
        let below : high < low = grind (arith, nat_tests) in
        let less : Less ≡ nat_cmp high low = nat_cmp_is high low Less below in
        absurd (let on : is_lt (nat_cmp high low) ≡ true = ap is_lt (sym less) in cc)
    go false is = grind (arith, nat_tests)

sorted-tail : (s : Stretch) (ss : List Stretch) → IsSortedByKey (λ x. x.base) nat_cmp (s ∷ ss) → IsSortedByKey (λ x. x.base) nat_cmp ss
sorted-tail s ss sorted k d low high =
    let next : suc k + 1 ≡ suc (k + 1) = omega arith in
    subst (λ (n : ℕ). is_lt (nat_cmp (slice_index_or (s ∷ ss) n d).base (slice_index_or ss k d).base) ≡ false) next
    (sorted (suc k) d (omega arith) (omega (arith, high)))

rises : (low : ℕ) (ss : List Stretch) → IsSortedByKey (λ x. x.base) nat_cmp ss → low ≤ (slice_index_or ss 0 (record { base = low; end = 0 })).base
    → Rises low ss
rises low [] sorted first = tt
rises low (s ∷ ss) sorted first = (first, rises s.base ss (sorted-tail s ss sorted) (next ss sorted))
  where
    next : (ts : List Stretch) → IsSortedByKey (λ x. x.base) nat_cmp (s ∷ ts) → s.base ≤ (slice_index_or ts 0 (record { base = s.base; end = 0 })).base
    next [] in_order = omega arith
    next (t ∷ ts) in_order = not-less s.base t.base (in_order 0 s (omega arith) (omega arith))

-- an address is in a gap where it is in no stretch
pub rest : GapsAreTheRest
rest base end a stretches rising are from to =
    in-gap base end a 0 rising (rises 0 rising are.sorted (omega arith)) from to
    ∙ ap not (sym (list_any-IsPermutation (holds a) stretches rising are.same))
