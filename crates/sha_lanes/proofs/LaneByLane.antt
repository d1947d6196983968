-- What is computed lane by lane.
use Rattle.std.proofs.Common.{Fits, ◌≡◌, ℕ, ◌-◌, ◌*◌, ◌/◌, ◌%◌, ◌^◌, ◌<◌, List, [], ◌∷◌, length, slice_index, bit_or, map, refl, sym, ap, ◌∙◌, replicate}
use Rattle.std.proofs.Common.{slice_set, arith, zero, suc, mod-eq_of_lt, ◌+◌, slice_index_or, inl, inr}
use Rattle.std.proofs.lemmas.Bool.{cases_lt}
use Rattle.std.proofs.lemmas.List.{get_or-set_other, get_or-set_same, length-map}
use Rattle.std.proofs.lemmas.Simd.{Each1-get_or, length-zip2, get_or-zip2, length-replicate, get_or-replicate}
use Rattle.std.specs.Simd.Lanes.{Each1, zip2}
use Rattle.std.specs.Int.{Width, rotate_right}
use Rattle.std.specs.Borrow.{Bor}
use Rattle.std.specs.List.{All}
use Rattle.sha_lanes.specs.inside.Lanes.{IsLanes, lane_at, message, window}
use mir.Val.{bits}

pub itself : {n : ℕ} (xs : List ℕ) → length xs ≡ n → IsLanes n xs (λ j. slice_index xs j)
itself xs l = (l, λ j h. refl)

pub splat : {n : ℕ} (a : ℕ) → IsLanes n (replicate n a) (λ _. a)
splat {n} a = (length-replicate n a, λ j h. get_or-replicate n j a 0 h)

-- an operator of two vectors
pub both : {n : ℕ} (g : ℕ → ℕ → ℕ) (xs ys : List ℕ) (f h : ℕ → ℕ) → IsLanes n xs f → IsLanes n ys h → IsLanes n (zip2 g xs ys) (λ j. g (f j) (h j))
both g xs ys f h x y = (
  length-zip2 g xs ys (x.0 ∙ sym y.0) ∙ x.0,
  λ j lt.
      get_or-zip2 g xs ys j 0 0 0 (omega (arith, x.0)) (omega (arith, y.0)) ∙ (λ i. g (x.1 j lt i) (y.1 j lt i)),
)

-- what is computed in another way, with the same outcome
pub alike : {n : ℕ} (xs : List ℕ) (f g : ℕ → ℕ) → IsLanes n xs f → ((j : ℕ) → j < n → f j ≡ g j) → IsLanes n xs g
alike xs f g x e = (x.0, λ j h. x.1 j h ∙ e j h)

-- each lane of a vector of words is a word
pub lane_below : {n : ℕ} (w : Width) (xs : List ℕ) → length xs ≡ n → Each1 (Fits w) xs → (j : ℕ) → j < n → slice_index xs j < 2 ^ bits w
lane_below {n} w xs long fits j h = (Each1-get_or (Fits w) xs j 0 (omega (arith, long)) fits).fits

at_map : (g : ℕ → ℕ) (xs : List ℕ) (j : ℕ) → j < length xs → slice_index (map g xs) j ≡ g (slice_index xs j)
at_map g [] j h = absurd (omega arith)
at_map g (x ∷ xs) zero h = refl
at_map g (x ∷ xs) (suc j) h = at_map g xs j (omega arith)

-- an operator of one vector
pub one : {n : ℕ} (g : ℕ → ℕ) (xs : List ℕ) (f : ℕ → ℕ) → IsLanes n xs f → IsLanes n (map g xs) (λ j. g (f j))
one g xs f x = (length-map xs g ∙ x.0, λ j lt. at_map g xs j (omega (arith, x.0)) ∙ ap g (x.1 j lt))

-- two shifts and an or are a rotation
pub rotation : (w : Width) (x k : ℕ) → 0 < k → k < bits w → bit_or (x / 2 ^ k) (x * 2 ^ (bits w - k) % 2 ^ bits w) ≡ rotate_right w x k
rotation w x k low high =
    let right : k % bits w ≡ k = mod-eq_of_lt high in
    let left : (bits w - k) % bits w ≡ bits w - k = mod-eq_of_lt (omega arith) in
    rw (right, left) refl

-- word i of the window of message j
pub window_at : (w : List (List ℕ)) (i j : ℕ) → slice_index (window j w) i ≡ lane_at w i j
window_at [] i j = refl
window_at (x ∷ w) zero j = refl
window_at (x ∷ w) (suc i) j = window_at w i j

pub window_set : (w : List (List ℕ)) (i : ℕ) (x : List ℕ) (j : ℕ) → window j (slice_set w i x) ≡ slice_set (window j w) i (slice_index x j)
window_set [] i x j = refl
window_set (y ∷ w) zero x j = refl
window_set (y ∷ w) (suc i) x j = ap (λ (r : List ℕ). slice_index y j ∷ r) (window_set w i x j)

pub window_length : (w : List (List ℕ)) (j : ℕ) → length (window j w) ≡ length w
window_length w j = length-map w _

-- one more element than the first i is as it should be
pub set_next : {A : Type 0} (d : A) (f : ℕ → A) (xs : List A) (i : ℕ) (x : A) → i < length xs → x ≡ f i
    → ((k : ℕ) → k < i → slice_index_or xs k d ≡ f k) → (k : ℕ) → k < i + 1 → slice_index_or (slice_set xs i x) k d ≡ f k
set_next d f xs i x room e before k lt =
    elim (cases_lt k i) [
      | inl a ↦ get_or-set_other xs i k x d (omega arith) ∙ before k a
      | inr b ↦
          let same : i ≡ k = omega arith in
          rw (← same) (get_or-set_same xs i x d room ∙ e)
    ]

-- a list has f of each element of another
pub is_map : {A : Type 0} (d : A) (f : A → List ℕ) (xs : List A) (ys : List (List ℕ)) → length ys ≡ length xs
    → ((k : ℕ) → k < length xs → slice_index_or ys k [] ≡ f (slice_index_or xs k d)) → ys ≡ map f xs
is_map d f [] [] e h = refl
is_map d f [] (y ∷ ys) e h = absurd (omega (arith, e))
is_map d f (x ∷ xs) [] e h = absurd (omega (arith, e))
is_map d f (x ∷ xs) (y ∷ ys) e h =
    let first : y ≡ f x = h 0 (omega arith) in
    let rest : ys ≡ map f xs = is_map d f xs ys (omega (arith, e)) (λ k lt. h (suc k) (omega arith)) in
    λ i. first i ∷ rest i

-- what holds of all messages holds of message j
pub of_message : (P : List ℕ → Type 0) (messages : List (Bor (List ℕ))) → All (λ m. P m.now) messages → (j : ℕ) → j < length messages → P (message messages j)
of_message P [] all j h = absurd (omega arith)
of_message P (m ∷ ms) all zero h = all 0 m (omega arith)
of_message P (m ∷ ms) all (suc j) h = of_message P ms (λ k d lt. all (suc k) d (omega arith)) j (omega arith)

-- one more word of each window is as it should be
pub window_next : {n : ℕ} (f : ℕ → ℕ → ℕ) (w : List (List ℕ)) (i : ℕ) (x : List ℕ) → i < length w → IsLanes n x (λ j. f j i)
    → ((j k : ℕ) → j < n → k < i → slice_index (window j w) k ≡ f j k) → (j k : ℕ) → j < n → k < i + 1 → slice_index (window j (slice_set w i x)) k ≡ f j k
window_next f w i x room word before j k low lt =
    ap (λ (r : List ℕ). slice_index r k) (window_set w i x j)
    ∙ set_next 0 (f j) (window j w) i (slice_index x j) (omega (arith, room, window_length w j)) (word.1 j low) (λ m h. before j m low h) k lt

-- four elements, by their places
pub four_places : {A : Type 0} (d : A) (xs : List A) → length xs ≡ 4
    → slice_index_or xs 0 d ∷ slice_index_or xs 1 d ∷ slice_index_or xs 2 d ∷ slice_index_or xs 3 d ∷ [] ≡ xs
four_places d [] e = absurd (omega (arith, e))
four_places d (a ∷ []) e = absurd (omega (arith, e))
four_places d (a ∷ b ∷ []) e = absurd (omega (arith, e))
four_places d (a ∷ b ∷ c ∷ []) e = absurd (omega (arith, e))
four_places d (a ∷ b ∷ c ∷ x ∷ []) e = refl
four_places d (a ∷ b ∷ c ∷ x ∷ y ∷ xs) e = absurd (omega (arith, e))
