-- The words of a ring of vectors.
use Rattle.std.proofs.Common.{◌≡◌, ℕ, ◌+◌, ◌*◌, List, [], ◌∷◌, length, slice_index, refl, ap, slice_set, arith, zero, suc}
use Rattle.sha_lanes.specs.inside.Lanes.{lane_at}
use Rattle.sha_lanes.specs.inside.Pairs.{IsScheduledTo256, IsScheduledTo512, flat}

pub length-flat : (p q : ℕ) (w : List (List ℕ)) → length (flat p q w) ≡ 2 * length w
length-flat p q [] = refl
length-flat p q (x ∷ w) = omega (arith, length-flat p q w)

pub flat_first : (p q : ℕ) (w : List (List ℕ)) (i : ℕ) → slice_index (flat p q w) (2 * i) ≡ lane_at w i p
flat_first p q [] i = refl
flat_first p q (x ∷ w) zero = refl
flat_first p q (x ∷ w) (suc i) =
    let e : 2 * suc i ≡ suc (suc (2 * i)) = omega arith in
    rw e (flat_first p q w i)

pub flat_second : (p q : ℕ) (w : List (List ℕ)) (i : ℕ) → slice_index (flat p q w) (2 * i + 1) ≡ lane_at w i q
flat_second p q [] i = refl
flat_second p q (x ∷ w) zero = refl
flat_second p q (x ∷ w) (suc i) =
    let e : 2 * suc i + 1 ≡ suc (suc (2 * i + 1)) = omega arith in
    rw e (flat_second p q w i)

pub flat_set : (p q : ℕ) (w : List (List ℕ)) (i : ℕ) (x : List ℕ)
    → flat p q (slice_set w i x) ≡ slice_set (slice_set (flat p q w) (2 * i) (slice_index x p)) (2 * i + 1) (slice_index x q)
flat_set p q [] i x = refl
flat_set p q (y ∷ w) zero x = refl
flat_set p q (y ∷ w) (suc i) x =
    let e : 2 * suc i ≡ suc (suc (2 * i)) = omega arith in
    let e1 : 2 * suc i + 1 ≡ suc (suc (2 * i + 1)) = omega arith in
    rw (e1, e) (ap (λ (r : List ℕ). slice_index y p ∷ slice_index y q ∷ r) (flat_set p q w i x))

-- the same place, spelled another way
pub at_place256 : (l r : ℕ) (b : List ℕ) (w : List (List ℕ)) (sums : List ℕ) (n k : ℕ) → n ≡ k → IsScheduledTo256 l r b w sums n
    → IsScheduledTo256 l r b w sums k
at_place256 l r b w sums n k e held = rw (← e) held

pub at_place512 : (b : List ℕ) (w : List (List ℕ)) (sums : List ℕ) (n k : ℕ) → n ≡ k → IsScheduledTo512 b w sums n → IsScheduledTo512 b w sums k
at_place512 b w sums n k e held = rw (← e) held
