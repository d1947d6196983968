-- Messages side by side. Each word of the computation is a vector, in which each message has a lane. This project's
-- choice.
use Rattle.std.specs.Prelude.{◌≡◌, ℕ, ◌<◌, List, [], ◌∷◌, length, map, slice_index, slice_index_or}
use Rattle.std.specs.Borrow.{Bor}

-- a vector of n lanes, of which lane j is f j
abbrev pub IsLanes : ℕ → List ℕ → (ℕ → ℕ) → Type 0
IsLanes n xs f = (length xs ≡ n) × ((j : ℕ) → j < n → slice_index xs j ≡ f j)

-- lane j of vector k
abbrev pub lane_at : List (List ℕ) → ℕ → ℕ → ℕ
lane_at vectors k j = slice_index (slice_index_or vectors k []) j

-- the hash value of message j, or its working variables
abbrev pub lane : ℕ → List (List ℕ) → List ℕ
lane j v =
    lane_at v 0 j ∷ lane_at v 1 j ∷ lane_at v 2 j ∷ lane_at v 3 j
    ∷ lane_at v 4 j ∷ lane_at v 5 j ∷ lane_at v 6 j ∷ lane_at v 7 j ∷ []

-- the last words of the schedule of message j
abbrev pub window : ℕ → List (List ℕ) → List ℕ
window j w = map (λ x. slice_index x j) w

-- message j
abbrev pub message : List (Bor (List ℕ)) → ℕ → List ℕ
message messages j = slice_index_or (map (λ m. m.now) messages) j []
