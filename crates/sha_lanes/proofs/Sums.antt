-- Each word of a schedule with its round's constant, whatever the width of a word.
use Rattle.std.proofs.Common.{◌≡◌, ℕ, ◌+◌, ◌<◌, ◌≤◌, List, length, slice_index, slice_set, sym, ◌∙◌, arith, inl, inr}
use Rattle.std.proofs.lemmas.Bool.{cases_lt}
use Rattle.std.proofs.lemmas.Grind.{same_number_lists}
use Rattle.std.proofs.lemmas.List.{get_or-set_same, get_or-set_other, length-set}
use Rattle.std.proofs.lemmas.Simd.{get_or-zip2, length-zip2}
use Rattle.std.specs.Simd.Lanes.{zip2}
use Rattle.sha_lanes.specs.inside.Pairs.{AreSumsBelow}

module _ (n : ℕ) (add : ℕ → ℕ → ℕ) (constants words : List ℕ) where
  -- two sums more
  pub sums_more : (sums : List ℕ) (t x y : ℕ) → t + 2 ≤ n → AreSumsBelow n add constants words sums t
      → x ≡ add (slice_index constants t) (slice_index words t) → y ≡ add (slice_index constants (t + 1)) (slice_index words (t + 1))
      → AreSumsBelow n add constants words (slice_set (slice_set sums t x) (t + 1) y) (t + 2)
  sums_more sums t x y high held ex ey =
      let once : length (slice_set sums t x) ≡ n = length-set sums t x ∙ held.0 in (
        length-set (slice_set sums t x) (t + 1) y ∙ once,
        λ k lt. elim (cases_lt k (t + 1)) [
          | inl below ↦
              get_or-set_other (slice_set sums t x) (t + 1) k y 0 (omega arith)
              ∙ elim (cases_lt k t) [
                | inl a ↦ get_or-set_other sums t k x 0 (omega arith) ∙ held.1 k a
                | inr c ↦
                    let e : k ≡ t = omega arith in
                    rw e (get_or-set_same sums t x 0 (omega (arith, held.0)) ∙ ex)
              ]
          | inr above ↦
              let e : k ≡ t + 1 = omega arith in
              rw e (get_or-set_same (slice_set sums t x) (t + 1) y 0 (omega (arith, once)) ∙ ey)
        ],
      )

  module _ (all-constants : length constants ≡ n) (all-words : length words ≡ n) where
    -- all sums
    pub sums_all : (sums : List ℕ) → AreSumsBelow n add constants words sums n → sums ≡ zip2 add constants words
    sums_all sums held =
        let long = length-zip2 add constants words (all-constants ∙ sym all-words) in
        same_number_lists sums _ (held.0 ∙ sym all-constants ∙ sym long) (λ k lt.
        held.1 k (omega (arith, held.0))
        ∙ sym (get_or-zip2 add constants words k 0 0 0 (omega (arith, held.0, all-constants)) (omega (arith, held.0, all-words))))

    pub sum_at : (sums : List ℕ) (t : ℕ) → sums ≡ zip2 add constants words → t < n
        → slice_index sums t ≡ add (slice_index constants t) (slice_index words t)
    sum_at sums t e h = rw e (get_or-zip2 add constants words t 0 0 0 (omega (arith, all-constants)) (omega (arith, all-words)))
