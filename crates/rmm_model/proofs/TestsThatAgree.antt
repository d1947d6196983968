-- Tests that answer alike pass the same elements of a list.
use Rattle.std.proofs.Common.{◌≡◌, refl, Bool, List, [], ◌∷◌}
use Rattle.std.specs.List.{filter, list_all, list_any}

-- tests that answer alike at each element
pub list_any-same : {X : Type 0} (p q : X → Bool) (xs : List X) → ((x : X) → p x ≡ q x) → list_any p xs ≡ list_any q xs
list_any-same p q [] h = refl
list_any-same p q (x ∷ xs) h = rw (h x, list_any-same p q xs h) refl

pub list_all-same : {X : Type 0} (p q : X → Bool) (xs : List X) → ((x : X) → p x ≡ q x) → list_all p xs ≡ list_all q xs
list_all-same p q [] h = refl
list_all-same p q (x ∷ xs) h = rw (h x, list_all-same p q xs h) refl

pub filter-same : {X : Type 0} (p q : X → Bool) (xs : List X) → ((x : X) → p x ≡ q x) → filter p xs ≡ filter q xs
filter-same p q [] h = refl
filter-same p q (x ∷ xs) h = rw (h x, filter-same p q xs h) refl
