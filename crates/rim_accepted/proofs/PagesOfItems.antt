-- An item of a launch has no more pages than all its items.
use Rattle.std.proofs.Common.{◌≡◌, ℕ, ◌<◌, ◌≤◌, List, [], ◌∷◌, ◌++◌, length, get_or, ap, arith, sum_by}
use Rattle.std.specs.Prelude.{Some}
use Rattle.std.specs.List.{AllByRecursion, slice_get}
use Rattle.std.proofs.lemmas.List.Sums.{get_or-le-sum_by}
use Rattle.std.proofs.lemmas.Option.{get_or_from_slice_get, slice_get_within}
use Rattle.ipa_layout.specs.declared.placed.PlacedItem.{PlacedItem}

pub item-pages : (items : List PlacedItem) (number : ℕ) (item : PlacedItem) → slice_get items number ≡ Some item → item.pages ≤ sum_by (λ i. i.pages) items
item-pages items number item at =
    let inside : number < length items = slice_get_within items number item at in
    let same : (get_or items number item).pages ≡ item.pages = ap (λ (x : PlacedItem). x.pages) (get_or_from_slice_get items number item item at) in
    let most : (get_or items number item).pages ≤ sum_by (λ i. i.pages) items = get_or-le-sum_by (λ (i : PlacedItem). i.pages) items number item inside in
    omega (arith, same, most)

-- what holds of each of two lists holds of each of both
pub each-append : {X : Type 0} (P : X → Type 0) (xs ys : List X) → AllByRecursion P xs → AllByRecursion P ys → AllByRecursion P (xs ++ ys)
each-append P [] ys first second = second
each-append P (x ∷ xs) ys first second = (first.0, each-append P xs ys first.1 second)
