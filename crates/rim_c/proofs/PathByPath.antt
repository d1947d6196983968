-- The paths of a manifest, one by one.
use Rattle.std.proofs.Common.{◌≡◌, ◌∙◌, ℕ, zero, suc, List, [], ◌∷◌, ◌++◌, Some, ap, append-nil, append_assoc, flat_map, slice_get, sym, take}
use Rattle.std.proofs.lemmas.Option.{none-some, same_Some}

pub texts_next : (f : List ℕ → List ℕ) (xs : List (List ℕ)) (i : ℕ) (x : List ℕ) → slice_get xs i ≡ Some x
    → flat_map f (take (suc i) xs) ≡ flat_map f (take i xs) ++ f x
texts_next f [] i x e = absurd (none-some x e)
texts_next f (y ∷ ys) zero x e = append-nil (f y) ∙ ap f (same_Some y x e)
texts_next f (y ∷ ys) (suc i) x e = ap (λ (t : List ℕ). f y ++ t) (texts_next f ys i x e) ∙ sym (append_assoc (f y) (flat_map f (take i ys)) (f x))
