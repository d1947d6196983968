-- Where a walk ends, by look-ups of the tables that cover its address, from the deepest level up.
use Rattle.std.proofs.Common.{inl, inr, ◌≡◌, ℕ, ◌*◌, ◌<◌, ◌≤◌, ◌∙◌, sym, ap, arith, Bool, true, false, List, ◌⊎◌}
use Rattle.std.proofs.Math.Nat.{eq-or-lt_of_le}
use Rattle.rmm_model.specs.declared.table.Table.{Table}
use Rattle.rmm_model.specs.Blocks.{down, span}
use Rattle.rmm_model.specs.Space.{ArePlaced, made, walk}
use Rattle.rmm_model.proofs.BlockArithmetic.{down-in, span-pos}
use Rattle.rmm_model.proofs.EndsOfWalks.{EndsAt, walk-ends, walk-least}

-- the walk of x ends at the start level, or at the table of a level that covers x
ends : (start : ℕ) (ts : List Table) (x w : ℕ) → ArePlaced start ts → EndsAt start ts x w
    → (w ≡ start) ⊎ ((start < w) × (w ≤ 3) × (made ts w (down (span w) x) ≡ true))
unfolding EndsAt
ends start ts x w formed (inl e) = inl e
ends start ts x w formed (inr e) =
    let placed = formed.shape w (e.0) (e.1) in
    let same : e.0 ≡ down (span w) x = sym (placed.2) ∙ ap (λ q. q * span w) (sym (e.2)) in
    inr (placed.0, placed.1, rw (← same) (e.1))

-- it ends where a table is, and no deeper one
pub walk-at : (start : ℕ) (ts : List Table) (x j : ℕ) → ArePlaced start ts → made ts j (down (span j) x) ≡ true
    → ((k : ℕ) → j < k → k ≤ 3 → made ts k (down (span k) x) ≡ false) → j ≡ walk start ts x
walk-at start ts x j formed there none =
    let least : j ≤ walk start ts x = walk-least start ts x j (down (span j) x) there (sym (down-in (span j) x (span-pos j))) in
    let placed = formed.shape j (down (span j) x) there in
    let w : ℕ = walk start ts x in
    elim (ends start ts x w formed (walk-ends start ts x)) [
      | inl e ↦ absurd (omega arith)
      | inr e ↦ elim (eq-or-lt_of_le least) [
        | inl same ↦ same
        | inr more ↦ (let no : made ts w (down (span w) x) ≡ false = none w more (e.1) in absurd (cc))
      ]
    ]

-- and at the start level where no table is
pub walk-start : (start : ℕ) (ts : List Table) (x : ℕ) → ArePlaced start ts
    → ((k : ℕ) → 0 < k → k ≤ 3 → made ts k (down (span k) x) ≡ false) → start ≡ walk start ts x
walk-start start ts x formed none =
    let w : ℕ = walk start ts x in
    elim (ends start ts x w formed (walk-ends start ts x)) [
      | inl e ↦ sym e
      | inr e ↦ (let no : made ts w (down (span w) x) ≡ false = none w (omega arith) (e.1) in absurd (cc))
    ]

-- the table of a level that covers an address
abbrev pub made_at : List Table → ℕ → ℕ → Bool
made_at ts level x = made ts level (down (span level) x)

-- from the deepest level up
pub walk-3 : (start : ℕ) (ts : List Table) (x : ℕ) → ArePlaced start ts → made_at ts 3 x ≡ true → 3 ≡ walk start ts x
walk-3 start ts x formed three = walk-at start ts x 3 formed three (λ k low high. absurd (omega arith))

pub walk-2 : (start : ℕ) (ts : List Table) (x : ℕ) → ArePlaced start ts → made_at ts 3 x ≡ false → made_at ts 2 x ≡ true → 2 ≡ walk start ts x
walk-2 start ts x formed three two = walk-at start ts x 2 formed two (λ k low high. (let e : k ≡ 3 = omega arith in rw e three))

pub walk-1 : (start : ℕ) (ts : List Table) (x : ℕ) → ArePlaced start ts → made_at ts 3 x ≡ false → made_at ts 2 x ≡ false → made_at ts 1 x ≡ true
    → 1 ≡ walk start ts x
walk-1 start ts x formed three two one = walk-at start ts x 1 formed one
    (λ k low high. elim (two-or-three k low high) [ inl e ↦ rw e two | inr e ↦ rw e three ])
  where
    two-or-three : (k : ℕ) → 1 < k → k ≤ 3 → (k ≡ 2) ⊎ (k ≡ 3)
    two-or-three k low high = grind arith

-- a level of a table is one of three
pub levels : (j : ℕ) → 0 < j → j ≤ 3 → (j ≡ 1) ⊎ ((j ≡ 2) ⊎ (j ≡ 3))
levels j low high = grind arith

pub walk-none : (start : ℕ) (ts : List Table) (x : ℕ) → ArePlaced start ts → made_at ts 3 x ≡ false → made_at ts 2 x ≡ false → made_at ts 1 x ≡ false
    → start ≡ walk start ts x
walk-none start ts x formed three two one = walk-start start ts x formed
    (λ k low high. elim (levels k low high) [ inl e ↦ rw e one | inr (inl e) ↦ rw e two | inr (inr e) ↦ rw e three ])
