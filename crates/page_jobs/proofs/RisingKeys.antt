-- Keys that rise are in order, each once, and no other list of the same keys rises.
use Rattle.std.proofs.Common.{◌≡◌, ℕ, ◌<◌, ◌⊎◌, List, [], ◌∷◌, length, get_or, zero, suc, refl, ap, sym, ◌∙◌, arith, inl, inr}
use Rattle.std.specs.Prelude.{◌↔◌}
use Rattle.std.specs.List.{AllByRecursion, Contains}
use Rattle.std.specs.List.Sorted.{IsStrictlySortedBy}
use Rattle.std.specs.Ordering.{is_eq, ordering_reverse}
use Rattle.std.specs.declared.cmp.Ordering.{Ordering}
use Rattle.std.specs.declared.cmp.Ordering.TheVariants.{Less, Equal, Greater}
use Rattle.std.proofs.lemmas.List.Elements.{recursion_from_All}
use Rattle.std.proofs.lemmas.Map.Keys.{Less-from_sorted}
use Rattle.page_jobs.specs.Key.{IsRising, key_cmp, rising_keys, with_key}
use Rattle.page_jobs.specs.declared.page.PageKey.{PageKey}
use Rattle.page_jobs.proofs.OrderOfKeys.{key-equal, key_total, not-itself}

-- ---- the elements of a list, one by one

abbrev pub Has : List PageKey → PageKey → Type 0
Has [] key = ⊥
Has (first ∷ others) key = (key ≡ first) ⊎ Has others key

pub has-contains : (keys : List PageKey) (key : PageKey) → Contains keys key → Has keys key
has-contains keys key there = at keys there.0 there.1 there.2
  where
    at : (keys : List PageKey) (i : ℕ) → i < length keys → get_or keys i key ≡ key → Has keys key
    at [] i low same = absurd (omega arith)
    at (first ∷ others) zero low same = inl (sym same)
    at (first ∷ others) (suc i) low same = inr (at others i (omega arith) same)

pub contains-has : (keys : List PageKey) (key : PageKey) → Has keys key → Contains keys key
contains-has [] key there = absurd there
contains-has (first ∷ others) key (inl same) = (0, omega arith, sym same)
contains-has (first ∷ others) key (inr there) =
    let rest = contains-has others key there in
    (suc rest.0, omega (arith, rest.1), rest.2)

-- ---- keys that rise

abbrev pub AreAbove : PageKey → List PageKey → Type 0
AreAbove low keys = AllByRecursion (λ key. key_cmp low key ≡ Less) keys

above-has : (keys : List PageKey) (low key : PageKey) → AreAbove low keys → Has keys key → key_cmp low key ≡ Less
above-has [] low key above there = absurd there
above-has (first ∷ others) low key above (inl same) = ap (key_cmp low) same ∙ above.0
above-has (first ∷ others) low key above (inr there) = above-has others low key above.1 there

pub above-lower : (keys : List PageKey) (low key : PageKey) → key_cmp low key ≡ Less → AreAbove key keys → AreAbove low keys
above-lower [] low key lower above = tt
above-lower (first ∷ others) low key lower above = (key_total.trans low key first lower above.0, above-lower others low key lower above.1)

abbrev pub AreInOrder : List PageKey → Type 0
AreInOrder keys = IsStrictlySortedBy key_cmp keys

pub rising-in_order : (keys : List PageKey) → AreInOrder keys → IsRising keys
rising-in_order keys order = λ i j d before inside. Less-from_sorted key_cmp keys i j d order before inside

in_order-rising : (keys : List PageKey) → IsRising keys → AreInOrder keys
unfolding IsStrictlySortedBy
in_order-rising [] rising = tt
in_order-rising (first ∷ others) rising = (
  recursion_from_All (λ key. key_cmp first key ≡ Less) others (λ j d inside. rising 0 (suc j) d (omega arith) (omega arith)),
  in_order-rising others (λ i j d before inside. rising (suc i) (suc j) d (omega arith) (omega arith)),
)

-- a key after the first of one list is after the first of the other
past : (us vs : List PageKey) (key u v : PageKey) → AreAbove u us → Has us key → u ≡ v → (key ≡ v) ⊎ Has vs key → Has vs key
past us vs key u v above there same (inl here) = absurd (not-itself u (ap (key_cmp u) (same ∙ sym here) ∙ above-has us u key above there))
past us vs key u v above there same (inr after) = after

-- two lists in order that have the same keys are one
one-list : (xs ys : List PageKey) → AreInOrder xs → AreInOrder ys → ((key : PageKey) → Has xs key → Has ys key)
    → ((key : PageKey) → Has ys key → Has xs key) → xs ≡ ys
unfolding IsStrictlySortedBy
one-list [] [] first second to back = refl
one-list [] (y ∷ ys) first second to back = absurd (back y (inl refl))
one-list (x ∷ xs) [] first second to back = absurd (to x (inl refl))
one-list (x ∷ xs) (y ∷ ys) first second to back =
    let same : x ≡ y = heads (to x (inl refl)) (back y (inl refl)) in
    let rest : xs ≡ ys = one-list xs ys first.1 second.1
    (λ key there. past xs ys key x y first.0 there same (to key (inr there)))
    (λ key there. past ys xs key y x second.0 there (sym same) (back key (inr there))) in
    ap (λ (z : PageKey). z ∷ xs) same ∙ ap (λ (zs : List PageKey). y ∷ zs) rest
  where
    heads : (x ≡ y) ⊎ Has ys x → (y ≡ x) ⊎ Has xs y → x ≡ y
    heads (inl same) other = same
    heads (inr there) (inl same) = sym same
    heads (inr there) (inr back_there) =
        absurd (not-itself x (key_total.trans x y x (above-has xs x y first.0 back_there) (above-has ys y x second.0 there)))

-- ---- one key more

abbrev placed : Ordering → PageKey → PageKey → List PageKey → List PageKey
placed order key first others = elim order [
  | Less ↦ key ∷ (first ∷ others)
  | Equal ↦ first ∷ others
  | Greater ↦ first ∷ with_key key others
]

has-with_key : (key : PageKey) (keys : List PageKey) (other : PageKey) → Has (with_key key keys) other → (other ≡ key) ⊎ Has keys other
has-with_key key [] other there = there
has-with_key key (first ∷ others) other there = at (has-with_key key others other) (key_cmp key first) there
  where
    at : (Has (with_key key others) other → (other ≡ key) ⊎ Has others other) → (order : Ordering) → Has (placed order key first others) other
        → (other ≡ key) ⊎ Has (first ∷ others) other
    at rest Less there = there
    at rest Equal there = inr there
    at rest Greater (inl same) = inr (inl same)
    at rest Greater (inr there) = elim (rest there) [ inl same ↦ inl same | inr old ↦ inr (inr old) ]

with_key-has : (key : PageKey) (keys : List PageKey) (other : PageKey) → (other ≡ key) ⊎ Has keys other → Has (with_key key keys) other
with_key-has key [] other there = there
with_key-has key (first ∷ others) other there = at (with_key-has key others other) (key_cmp key first) refl there
  where
    at : ((other ≡ key) ⊎ Has others other → Has (with_key key others) other) → (order : Ordering) → key_cmp key first ≡ order
        → (other ≡ key) ⊎ Has (first ∷ others) other → Has (placed order key first others) other
    at rest Less is there = there
    at rest Equal is (inl same) = inl (same ∙ key-equal key first (ap is_eq is))
    at rest Equal is (inr old) = old
    at rest Greater is (inl same) = inr (rest (inl same))
    at rest Greater is (inr (inl same)) = inl same
    at rest Greater is (inr (inr old)) = inr (rest (inr old))

above-with_key : (low key : PageKey) (keys : List PageKey) → key_cmp low key ≡ Less → AreAbove low keys → AreAbove low (with_key key keys)
above-with_key low key [] lower above = (lower, tt)
above-with_key low key (first ∷ others) lower above = at (above-with_key low key others lower above.1) (key_cmp key first)
  where
    at : AreAbove low (with_key key others) → (order : Ordering) → AreAbove low (placed order key first others)
    at rest Less = (lower, above)
    at rest Equal = above
    at rest Greater = (above.0, rest)

in_order-with_key : (key : PageKey) (keys : List PageKey) → AreInOrder keys → AreInOrder (with_key key keys)
unfolding IsStrictlySortedBy
in_order-with_key key [] order = (tt, tt)
in_order-with_key key (first ∷ others) order = at (in_order-with_key key others order.1) (key_cmp key first) refl
  where
    at : AreInOrder (with_key key others) → (o : Ordering) → key_cmp key first ≡ o → AreInOrder (placed o key first others)
    at rest Less is = ((is, above-lower others key first is order.0), order)
    at rest Equal is = order
    at rest Greater is = (above-with_key first key others (key_total.antisymm first key ∙ ap ordering_reverse is) order.0, rest)

-- ---- all keys of a list

pub in_order-rising_keys : (keys : List PageKey) → AreInOrder (rising_keys keys)
unfolding IsStrictlySortedBy
in_order-rising_keys [] = tt
in_order-rising_keys (key ∷ keys) = in_order-with_key key (rising_keys keys) (in_order-rising_keys keys)

has-rising_keys : (keys : List PageKey) (other : PageKey) → Has (rising_keys keys) other → Has keys other
has-rising_keys [] other there = there
has-rising_keys (key ∷ keys) other there =
    elim (has-with_key key (rising_keys keys) other there) [ inl same ↦ inl same | inr old ↦ inr (has-rising_keys keys other old) ]

rising_keys-has : (keys : List PageKey) (other : PageKey) → Has keys other → Has (rising_keys keys) other
rising_keys-has [] other there = there
rising_keys-has (key ∷ keys) other (inl same) = with_key-has key (rising_keys keys) other (inl same)
rising_keys-has (key ∷ keys) other (inr old) = with_key-has key (rising_keys keys) other (inr (rising_keys-has keys other old))

-- they rise, they are the list's, and no other keys that rise are
pub rising_keys-rise : (keys : List PageKey) → IsRising (rising_keys keys)
rising_keys-rise keys = rising-in_order (rising_keys keys) (in_order-rising_keys keys)

pub rising_keys-same : (keys : List PageKey) (key : PageKey) → Contains (rising_keys keys) key ↔ Contains keys key
rising_keys-same keys key = (
  λ there. contains-has keys key (has-rising_keys keys key (has-contains (rising_keys keys) key there)),
  λ there. contains-has (rising_keys keys) key (rising_keys-has keys key (has-contains keys key there)),
)

pub rising_keys-only : (keys others : List PageKey) → AreInOrder others → ((key : PageKey) → Contains others key ↔ Contains keys key)
    → others ≡ rising_keys keys
rising_keys-only keys others order same = one-list others (rising_keys keys) order (in_order-rising_keys keys)
    (λ key there. rising_keys-has keys key (has-contains keys key ((same key).0 (contains-has others key there))))
    (λ key there. has-contains others key ((same key).1 (contains-has keys key (has-rising_keys keys key there))))

pub rising-only : (keys others : List PageKey) → IsRising others → ((key : PageKey) → Contains others key ↔ Contains keys key) → others ≡ rising_keys keys
rising-only keys others rising same = rising_keys-only keys others (in_order-rising others rising) same
