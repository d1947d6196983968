-- The first of the numbers a, a + 1, .. that passes a test is found one number after another.
use Rattle.std.proofs.Common.{◌≡◌, ℕ, zero, suc, ◌+◌, ◌<◌, ◌≤◌, Bool, true, false, Some, None, refl, arith, ◌∙◌, ap, add-one}
use Rattle.std.specs.List.{find, range_with_len}

-- the first number does not pass, so it is one of the others
pub find-next : (p : ℕ → Bool) (a n m : ℕ) → n ≡ m + 1 → p a ≡ false → find p (range_with_len a n) ≡ find p (range_with_len (a + 1) m)
find-next p a n m e h = rw (e, add-one m, h) refl

-- the first number passes
pub find-stop : (p : ℕ → Bool) (a n m : ℕ) → n ≡ m + 1 → p a ≡ true → find p (range_with_len a n) ≡ Some a
find-stop p a n m e h = rw (e, add-one m, h) refl

-- no number is left
pub find-end : (p : ℕ → Bool) (a n : ℕ) → n ≡ 0 → find p (range_with_len a n) ≡ None
find-end p a n e = rw e refl

-- the first d numbers do not pass, so it is one of the others
pub find-jump : (p : ℕ → Bool) (a d m : ℕ) → ((k : ℕ) → a ≤ k → k < a + d → p k ≡ false) → find p (range_with_len a (d + m)) ≡ find p (range_with_len (a + d) m)
find-jump p a zero m h = let e : 0 + m ≡ m = omega arith in let f : a + 0 ≡ a = omega arith in rw (e, f) refl
find-jump p a (suc d) m h =
    let e : a + 1 + d ≡ a + suc d = omega arith in
    let first : p a ≡ false = h a (omega arith) (omega arith) in
    let rest : find p (range_with_len (a + 1) (d + m)) ≡ find p (range_with_len (a + 1 + d) m) =
    find-jump p (a + 1) d m (λ k low high. h k (omega arith) (omega arith)) in
    find-next p a (suc d + m) (d + m) (omega arith) first ∙ rest ∙ ap (λ b. find p (range_with_len b m)) e
