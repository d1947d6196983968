-- A list whose elements are written one after another.
use Rattle.std.proofs.Common.{◌≡◌, ℕ, ◌+◌, ◌<◌, List, [], ◌∷◌, ◌++◌, length, map, take, slice_index_or, slice_set, refl, sym, ap, ◌∙◌, arith}
use Rattle.std.proofs.lemmas.List.{map-append, map_more, take_more_set}

-- one more element has by g what the element of another list has by f
pub written_next : {A B C : Type 0} (g : A → C) (f : B → C) (xs : List A) (ys : List B) (i : ℕ) (x : A) (d : B) → i < length xs → length xs ≡ length ys
    → map g (take i xs) ≡ map f (take i ys) → g x ≡ f (slice_index_or ys i d) → map g (take (i + 1) (slice_set xs i x)) ≡ map f (take (i + 1) ys)
written_next g f xs ys i x d room long before same =
    ap (map g) (take_more_set xs i x room) ∙ map-append g (take i xs) (x ∷ [])
    ∙ (λ j. before j ++ same j ∷ []) ∙ sym (map_more f ys i d (omega (arith, room, long)))

pub map_itself : {A : Type 0} (xs : List A) → map (λ (x : A). x) xs ≡ xs
map_itself [] = refl
map_itself (x ∷ xs) = ap (λ (r : List _). x ∷ r) (map_itself xs)
