-- What a search through a list found, and what it did not.
use Rattle.std.proofs.Common.{◌≡◌, Bool, true, false, cond, ◌&&◌, ◌||◌, List, [], ◌∷◌, Option, Some, None, refl}
use Rattle.std.specs.List.{find, list_all, list_any}
use Rattle.std.proofs.lemmas.Bool.{or_right}

none-here : {X : Type 0} (b : Bool) (x : X) (o : Option X) (any : Bool) → (o ≡ None → any ≡ false) → cond b (Some x) o ≡ None → (b || any) ≡ false
none-here true x o any h e = cc
none-here false x o any h e = h e

-- where none is found no element passes
pub found-none : {X : Type 0} (p : X → Bool) (xs : List X) → find p xs ≡ None → list_any p xs ≡ false
found-none p [] e = refl
found-none p (x ∷ xs) e = none-here (p x) x (find p xs) (list_any p xs) (found-none p xs) e

some-here : {X : Type 0} (b : Bool) (x y : X) (o : Option X) (p : X → Bool) → p x ≡ b → (o ≡ Some y → p y ≡ true) → cond b (Some x) o ≡ Some y → p y ≡ true
some-here true x y o p is h e = cc
some-here false x y o p is h e = h e

-- what is found passes
pub found-passes : {X : Type 0} (p : X → Bool) (xs : List X) (y : X) → find p xs ≡ Some y → p y ≡ true
found-passes p [] y e = cc
found-passes p (x ∷ xs) y e = some-here (p x) x y (find p xs) p refl (found-passes p xs y) e

any-here : {X : Type 0} (b : Bool) (x y : X) (o : Option X) (q : X → Bool) (any : Bool) → q y ≡ true → (o ≡ Some y → any ≡ true)
    → cond b (Some x) o ≡ Some y → (q x || any) ≡ true
any-here true x y o q any is h e = let same : q x ≡ true = cc in rw same refl
any-here false x y o q any is h e = or_right (q x) any (h e)

-- what is found is among the list, so another test that it passes finds some
pub found-any : {X : Type 0} (p q : X → Bool) (xs : List X) (y : X) → find p xs ≡ Some y → q y ≡ true → list_any q xs ≡ true
found-any p q [] y e h = cc
found-any p q (x ∷ xs) y e h = any-here (p x) x y (find p xs) q (list_any q xs) h (λ again. found-any p q xs y again h) e

holds-here : {X : Type 0} (b d rest : Bool) (x y : X) (o : Option X) (p : X → Bool) → p x ≡ d → (rest ≡ true → o ≡ Some y → p y ≡ true) → (d && rest) ≡ true
    → cond b (Some x) o ≡ Some y → p y ≡ true
holds-here true true rest x y o p is h all e = cc
holds-here true false rest x y o p is h all e = absurd cc
holds-here false true rest x y o p is h all e = h all e
holds-here false false rest x y o p is h all e = absurd cc

-- what holds of all holds of the one that is found
pub found-holds : {X : Type 0} (p t : X → Bool) (xs : List X) (y : X) → list_all p xs ≡ true → find t xs ≡ Some y → p y ≡ true
found-holds p t [] y all e = cc
found-holds p t (x ∷ xs) y all e = holds-here (t x) (p x) (list_all p xs) x y (find t xs) p refl (found-holds p t xs y) all e
