-- Items in the order of their ends: each page of an item comes once, and in the order of keys.
use Rattle.std.proofs.Common.{◌≡◌, cond, ℕ, ◌+◌, ◌-◌, ◌<◌, ◌≤◌, ◌⊎◌, Bool, true, false, List, [], ◌∷◌, ◌++◌, length, map, get_or, zero, suc, refl, ap, sym, ◌∙◌}
use Rattle.std.proofs.Common.{subst, arith, inl, inr, Option, Some, None}
use Rattle.std.specs.Prelude.{slice_index_or}
use Rattle.std.proofs.Common.{append_assoc}
use Rattle.std.proofs.Math.ListN.{drop, take}
use Rattle.std.specs.List.{Contains, flat_map, range_with_len}
use Rattle.std.specs.List.Sorted.{IsPermutation, IsSorted, IsStrictlySortedBy}
use Rattle.std.specs.Cmp.{tied_itself}
use Rattle.std.specs.Ordering.{is_eq, is_lt, nat_cmp, ordering_reverse, ordering_then}
use Rattle.std.specs.declared.cmp.Ordering.{Ordering}
use Rattle.std.specs.declared.cmp.Ordering.TheVariants.{Less, Equal, Greater}
use Rattle.std.proofs.lemmas.Bool.{cases_lt}
use Rattle.std.proofs.lemmas.Bool.Decides.{nat_tests}
use Rattle.std.proofs.lemmas.List.{append-nil, at_drop_all, at_drop_more}
use Rattle.std.proofs.lemmas.List.Elements.{Contains-append_cases, Contains-append_left, Contains-append_right, Contains-get_or, recursion_from_All}
use Rattle.std.proofs.lemmas.List.Concat.{get_or-flat_map}
use Rattle.std.proofs.lemmas.List.Folds.{length-flat_map-take}
use Rattle.std.proofs.lemmas.List.FromFn.{get_or-map-range_with_len, length-map-range_with_len}
use Rattle.std.proofs.lemmas.List.Sorted.{Contains-permutation, IsPermutation-sym}
use Rattle.std.proofs.lemmas.Cmp.{nat_cmp_total}
use Rattle.rim_desc.specs.Measurement.{algo_value}
use Rattle.rim_desc.specs.Source.{source_cmp}
use Rattle.page_jobs.specs.Key.{key_cmp, rising_keys}
use Rattle.page_jobs.specs.Ranges.{keys_before, range_keys, with_number}
use Rattle.page_jobs.specs.inside.Fresh.{fresh_from, fresh_range, is_item}
use Rattle.page_jobs.specs.declared.page.PageKey.{PageKey}
use Rattle.page_jobs.specs.declared.range.KeyRange.{KeyRange}
use Rattle.page_jobs.proofs.OrderOfKeys.{key-equal, key_total}
use Rattle.page_jobs.proofs.RisingKeys.{AreAbove, AreInOrder, Has, contains-has, has-contains, rising_keys-only}

-- the pages of each item that are not pages of the one before it
abbrev pub fresh_ranges : Option PageKey → List PageKey → List KeyRange
fresh_ranges last [] = []
fresh_ranges last (end ∷ ends) = fresh_range last end ∷ fresh_ranges (Some end) ends

-- ---- members of lists that are put together

pub append-left : (xs ys : List PageKey) (k : PageKey) → Has xs k → Has (xs ++ ys) k
append-left xs ys k there = has-contains (xs ++ ys) k (Contains-append_left xs ys k (contains-has xs k there))

pub append-right : (xs ys : List PageKey) (k : PageKey) → Has ys k → Has (xs ++ ys) k
append-right xs ys k there = has-contains (xs ++ ys) k (Contains-append_right xs ys k (contains-has ys k there))

above-append : (low : PageKey) (xs ys : List PageKey) → AreAbove low xs → AreAbove low ys → AreAbove low (xs ++ ys)
above-append low [] ys first second = second
above-append low (x ∷ xs) ys first second = (first.0, above-append low xs ys first.1 second)

above-all : (low : PageKey) (xs : List PageKey) → ((k : PageKey) → Contains xs k → key_cmp low k ≡ Less) → AreAbove low xs
above-all low xs each = recursion_from_All (λ k. key_cmp low k ≡ Less) xs (λ j d inside. each _ (Contains-get_or xs j d inside))

in_order-append : (xs ys : List PageKey) → AreInOrder xs → AreInOrder ys
    → ((a b : PageKey) → Contains xs a → Contains ys b → key_cmp a b ≡ Less) → AreInOrder (xs ++ ys)
unfolding IsStrictlySortedBy
in_order-append [] ys first second between = second
in_order-append (x ∷ xs) ys first second between = (
  above-append x xs ys first.0 (above-all x ys (λ k there. between x k (0, omega arith, refl) there)),
  in_order-append xs ys first.1 second (λ a b left right. between a b (Contains-append_right (x ∷ []) xs a left) right),
)

-- ---- the order of keys of one item and of two

nat_cmp-less : (m n : ℕ) → m < n → nat_cmp m n ≡ Less
nat_cmp-less m n low = grind (arith, nat_tests, low)

-- by the algorithm, the source and the lead
abbrev item_cmp : PageKey → PageKey → Ordering
item_cmp a b = ordering_then (nat_cmp (algo_value a.algo) (algo_value b.algo)) (ordering_then (source_cmp a.source b.source) (nat_cmp a.lead b.lead))

then-assoc : (p q r s : Ordering) → ordering_then p (ordering_then q (ordering_then r s)) ≡ ordering_then (ordering_then p (ordering_then q r)) s
then-assoc Less q r s = refl
then-assoc Greater q r s = refl
then-assoc Equal Less r s = refl
then-assoc Equal Greater r s = refl
then-assoc Equal Equal r s = refl

cmp-parts : (a b : PageKey) → key_cmp a b ≡ ordering_then (item_cmp a b) (nat_cmp a.number b.number)
cmp-parts a b = then-assoc (nat_cmp (algo_value a.algo) (algo_value b.algo)) (source_cmp a.source b.source) (nat_cmp a.lead b.lead) (nat_cmp a.number b.number)

then-equal : (p : Ordering) → ordering_then p Equal ≡ p
then-equal Less = refl
then-equal Equal = refl
then-equal Greater = refl

-- whether two keys are of one item, by their order at the same number
item-is : (a b : PageKey) → is_item a b ≡ is_eq (item_cmp a b)
item-is a b =
    ap is_eq (cmp-parts (with_number a 0) (with_number b 0) ∙ ap (ordering_then (item_cmp a b)) (tied_itself nat_cmp_total 0) ∙ then-equal (item_cmp a b))

-- a key is not after another
abbrev AtLeast : PageKey → PageKey → Type 0
AtLeast low k = (low ≡ k) ⊎ (key_cmp low k ≡ Less)

less-at_least : (low k : PageKey) → is_lt (key_cmp k low) ≡ false → AtLeast low k
less-at_least low k not_less = at (key_cmp k low) refl not_less
  where
    at : (o : Ordering) → key_cmp k low ≡ o → is_lt o ≡ false → (low ≡ k) ⊎ (key_cmp low k ≡ Less)
    at Less is h = absurd (cc)
    at Equal is h = inl (sym (key-equal k low (ap is_eq is)))
    at Greater is h = inr (key_total.antisymm low k ∙ ap ordering_reverse is)

at_least-below : (a low k : PageKey) → key_cmp a low ≡ Less → AtLeast low k → key_cmp a k ≡ Less
at_least-below a low k below (inl same) = ap (key_cmp a) (sym same) ∙ below
at_least-below a low k below (inr above) = key_total.trans a low k below above

at_least-trans : (a b c : PageKey) → AtLeast a b → AtLeast b c → AtLeast a c
at_least-trans a b c (inl same) above = subst (λ (x : PageKey). (x ≡ c) ⊎ (key_cmp x c ≡ Less)) (sym same) above
at_least-trans a b c (inr below) above = inr (at_least-below a b c below above)

-- in one item keys are in the order of their numbers
one-item : (e : PageKey) (m n : ℕ) → m < n → key_cmp (with_number e m) (with_number e n) ≡ Less
one-item e m n low = cmp-parts (with_number e m) (with_number e n) ∙ rw (itself) (nat_cmp-less m n low)
  where
    itself : item_cmp (with_number e m) (with_number e n) ≡ Equal
    itself =
        let same : ordering_then (item_cmp e e) (nat_cmp e.number e.number) ≡ Equal = sym (cmp-parts e e) ∙ tied_itself key_total e in
        let here : ordering_then (item_cmp e e) Equal ≡ Equal = ap (ordering_then (item_cmp e e)) (sym (tied_itself nat_cmp_total e.number)) ∙ same in
        sym (then-equal (item_cmp e e)) ∙ here

item-itself : (a : PageKey) → is_item a a ≡ true
item-itself a = ap is_eq (tied_itself key_total (with_number a 0))

-- keys of an item that is before another are before that one's
other-item : (a b : PageKey) (m n : ℕ) → AtLeast a b → is_item a b ≡ false → key_cmp (with_number a m) (with_number b n) ≡ Less
other-item a b m n order other = cmp-parts (with_number a m) (with_number b n) ∙ at (item_cmp a b) refl (sym (item-is a b) ∙ other)
  where
    before : (o : Ordering) → item_cmp a b ≡ o → (a ≡ b) ⊎ (key_cmp a b ≡ Less) → is_eq o ≡ false → o ≡ Less
    before o is (inl same) differ = absurd (differs same)
      where
        differs : a ≡ b → ⊥
        differs e = let h : is_item a b ≡ true = subst (λ (x : PageKey). is_item a x ≡ true) e (item-itself a) in cc
    before Less is (inr less) differ = refl
    before Equal is (inr less) differ = absurd (cc)
    before Greater is (inr less) differ =
        let parts : ordering_then (item_cmp a b) (nat_cmp a.number b.number) ≡ Less = sym (cmp-parts a b) ∙ less in
        absurd (let never = rw is at parts in cc)

    at : (o : Ordering) → item_cmp a b ≡ o → is_eq o ≡ false → ordering_then (item_cmp a b) (nat_cmp m n) ≡ Less
    at o is differ = ap (λ (x : Ordering). ordering_then x (nat_cmp m n)) (is ∙ before o is order differ)

-- two keys of one item are alike but for their numbers
item-same : (a b : PageKey) (n : ℕ) → is_item a b ≡ true → with_number a n ≡ with_number b n
item-same a b n same = ap (λ (k : PageKey). with_number k n) (key-equal (with_number a 0) (with_number b 0) same)

-- ---- neighbouring pages of an item

-- a key of the item that is numbered from here on, and below there
abbrev Lies : PageKey → ℕ → ℕ → PageKey → Type 0
Lies e from count k = (k ≡ with_number e k.number) × (from ≤ k.number) × (k.number < from + count)

has-lies : (e : PageKey) (from count : ℕ) (k : PageKey) → Contains (map (with_number e) (range_with_len from count)) k → Lies e from count k
has-lies e from count k there =
    let inside : there.0 < count = omega (arith, there.1, length-map-range_with_len (with_number e) from count) in
    let at : get_or (map (with_number e) (range_with_len from count)) there.0 k ≡ with_number e (from + there.0) =
    get_or-map-range_with_len (with_number e) from count there.0 (from + there.0) k inside refl in
    subst (Lies e from count) (sym at ∙ there.2) (refl, omega arith, omega (arith, inside))

lies-has : (e : PageKey) (from count : ℕ) (k : PageKey) → Lies e from count k → Contains (map (with_number e) (range_with_len from count)) k
lies-has e from count k lies = (
  k.number - from,
  omega (arith, lies.1, lies.2, length-map-range_with_len (with_number e) from count),
  get_or-map-range_with_len (with_number e) from count (k.number - from) k.number k (omega (arith, lies.1, lies.2)) (omega (arith, lies.1)) ∙ sym lies.0,
)

in_order-range : (e : PageKey) (from count : ℕ) → AreInOrder (map (with_number e) (range_with_len from count))
unfolding IsStrictlySortedBy
in_order-range e from zero = tt
in_order-range e from (suc n) = (
  above-all (with_number e from) (map (with_number e) (range_with_len (from + 1) n)) (λ k there.
      let lies = has-lies e (from + 1) n k there in
      rw (lies.0) (one-item e from k.number (omega (arith, lies.1)))),
  in_order-range e (from + 1) n,
)

-- ---- items in the order of their ends

-- each is not before the one before it
abbrev AreFrom : PageKey → List PageKey → Type 0
AreFrom low [] = Unit {0}
AreFrom low (e ∷ es) = AtLeast low e × AreFrom e es

abbrev fresh_keys : Option PageKey → List PageKey → List PageKey
fresh_keys last es = flat_map range_keys (fresh_ranges last es)

-- the pages of the item before
abbrev HasLast : Option PageKey → PageKey → Type 0
HasLast None k = ⊥
HasLast (Some last) k = Contains (keys_before last) k

-- a fresh page of an item is one of its pages
fresh-here : (last : Option PageKey) (e k : PageKey) → Contains (range_keys (fresh_range last e)) k
    → Lies e (fresh_from last e) (e.number - fresh_from last e) k
fresh-here last e k there = has-lies e (fresh_from last e) (e.number - fresh_from last e) k there

fresh-has : (last : Option PageKey) (es : List PageKey) (k : PageKey) → Contains (fresh_keys last es) k → Contains (flat_map keys_before es) k
fresh-has last [] k there = there
fresh-has last (e ∷ es) k there = elim (Contains-append_cases (range_keys (fresh_range last e)) (fresh_keys (Some e) es) k there) [
  | inl here ↦ let lies = fresh-here last e k here in
      Contains-append_left (keys_before e) (flat_map keys_before es) k (lies-has e 0 e.number k (lies.0, omega arith, omega (arith, lies.1, lies.2)))
  | inr later ↦ Contains-append_right (keys_before e) (flat_map keys_before es) k (fresh-has (Some e) es k later)
]

-- where the fresh pages of an item begin: at the end of the item before, if it is the same
begins : (b : Bool) (n : ℕ) → ((b ≡ true) × (cond b n 0 ≡ n)) ⊎ ((b ≡ false) × (cond b n 0 ≡ 0))
begins true n = inl (refl, refl)
begins false n = inr (refl, refl)

-- a page of an item is fresh, or one of the item before
fresh-or-last : (last : Option PageKey) (e k : PageKey) → Contains (keys_before e) k → Contains (range_keys (fresh_range last e)) k ⊎ HasLast last k
fresh-or-last None e k there =
    let lies = has-lies e 0 e.number k there in
    inl (lies-has e 0 (e.number - 0) k (lies.0, omega arith, omega (arith, lies.2)))
fresh-or-last (Some last) e k there =
    let from = fresh_from (Some last) e in
    let lies = has-lies e 0 e.number k there in
    elim (begins (is_item last e) last.number) [
      | inl same ↦ elim (cases_lt k.number last.number) [
        | inl low ↦ inr (lies-has last 0 last.number k (lies.0 ∙ sym (item-same last e k.number same.0), omega arith, omega (arith, low)))
        | inr high ↦ inl (lies-has e from (e.number - from) k (lies.0, omega (arith, same.1, high), omega (arith, same.1, high, lies.2)))
      ]
      | inr other ↦ inl (lies-has e from (e.number - from) k (lies.0, omega (arith, other.1), omega (arith, other.1, lies.2)))
    ]

has-fresh : (last : Option PageKey) (es : List PageKey) (k : PageKey) → Contains (flat_map keys_before es) k → Contains (fresh_keys last es) k ⊎ HasLast last k
has-fresh last [] k there = absurd (omega (arith, there.1))
has-fresh last (e ∷ es) k there = elim (Contains-append_cases (keys_before e) (flat_map keys_before es) k there) [
  | inl here ↦ at (fresh-or-last last e k here)
  | inr later ↦ elim (has-fresh (Some e) es k later) [
    | inl fresh ↦ inl (Contains-append_right (range_keys (fresh_range last e)) (fresh_keys (Some e) es) k fresh)
    | inr before ↦ at (fresh-or-last last e k before)
  ]
]
  where
    at : Contains (range_keys (fresh_range last e)) k ⊎ HasLast last k → Contains (fresh_keys last (e ∷ es)) k ⊎ HasLast last k
    at (inl fresh) = inl (Contains-append_left (range_keys (fresh_range last e)) (fresh_keys (Some e) es) k fresh)
    at (inr before) = inr before

-- the fresh pages of an item are not before the end of the one before it
fresh-from-last : (last e k : PageKey) → AtLeast last e → Contains (range_keys (fresh_range (Some last) e)) k → AtLeast last k
fresh-from-last last e k order there =
    let lies = fresh-here (Some last) e k there in
    elim (begins (is_item last e) last.number) [
      | inl same ↦
          let is : k ≡ with_number last k.number = lies.0 ∙ sym (item-same last e k.number same.0) in
          elim (cases_lt last.number k.number) [
            | inl low ↦ inr (rw is (one-item last last.number k.number low))
            | inr high ↦ inl (let number : last.number ≡ k.number = omega (arith, high, same.1, lies.1) in sym (is ∙ ap (with_number last) (sym number)))
          ]
      | inr other ↦ inr (rw (lies.0) (other-item last e last.number k.number order other.0))
    ]

fresh-low : (last : PageKey) (es : List PageKey) (k : PageKey) → AreFrom last es → Contains (fresh_keys (Some last) es) k → AtLeast last k
fresh-low last [] k order there = absurd (omega (arith, there.1))
fresh-low last (e ∷ es) k order there = elim (Contains-append_cases (range_keys (fresh_range (Some last) e)) (fresh_keys (Some e) es) k there) [
  | inl here ↦ fresh-from-last last e k order.0 here
  | inr later ↦ at_least-trans last e k order.0 (fresh-low e es k order.1 later)
]

fresh-order : (last : Option PageKey) (e : PageKey) (es : List PageKey) → AreFrom e es → AreInOrder (fresh_keys last (e ∷ es))
unfolding IsStrictlySortedBy
fresh-order last e [] order =
    in_order-append (range_keys (fresh_range last e)) [] (in_order-range e (fresh_from last e) (e.number - fresh_from last e)) tt
    (λ a b left right. absurd (omega (arith, right.1)))
fresh-order last e (f ∷ fs) order =
    in_order-append (range_keys (fresh_range last e)) (fresh_keys (Some e) (f ∷ fs))
    (in_order-range e (fresh_from last e) (e.number - fresh_from last e)) (fresh-order (Some e) f fs order.1)
    (λ a b left right.
    let lies = fresh-here last e a left in
    let low : key_cmp a e ≡ Less = rw (lies.0) (one-item e a.number e.number (omega (arith, lies.1, lies.2))) in
    at_least-below a e b low (fresh-low e (f ∷ fs) b order right))

-- ---- all items

from-sorted : (e : PageKey) (es : List PageKey) → IsSorted key_cmp (e ∷ es) → AreFrom e es
from-sorted e [] sorted = tt
from-sorted e (f ∷ fs) sorted = (
  less-at_least e f (sorted 0 e (omega arith) (omega arith)),
  from-sorted f fs (λ k d low high.
      let next : suc k + 1 ≡ suc (k + 1) = omega arith in
      subst (λ (n : ℕ). is_lt (key_cmp (get_or (e ∷ f ∷ fs) n d) (get_or (f ∷ fs) k d)) ≡ false) next
      (sorted (suc k) d (omega arith) (omega (arith, high)))),
)

order-sorted : (es : List PageKey) → IsSorted key_cmp es → AreInOrder (fresh_keys None es)
unfolding IsStrictlySortedBy
order-sorted [] sorted = tt
order-sorted (e ∷ es) sorted = fresh-order None e es (from-sorted e es sorted)

-- pages of items that have the same ends
flat-moved : (xs ys : List PageKey) (k : PageKey) → IsPermutation xs ys → Contains (flat_map keys_before xs) k → Contains (flat_map keys_before ys) k
flat-moved xs ys k moved = all_of xs (λ e there. each e (Contains-permutation xs ys e moved there))
  where
    all_of : (es : List PageKey) → ((e : PageKey) → Contains es e → Contains (keys_before e) k → Contains (flat_map keys_before ys) k)
        → Contains (flat_map keys_before es) k → Contains (flat_map keys_before ys) k
    all_of [] each there = absurd (omega (arith, there.1))
    all_of (e ∷ es) each there = elim (Contains-append_cases (keys_before e) (flat_map keys_before es) k there) [
      | inl here ↦ each e (0, omega arith, refl) here
      | inr later ↦ all_of es (λ f found. each f (Contains-append_right (e ∷ []) es f found)) later
    ]

    each : (e : PageKey) → Contains ys e → Contains (keys_before e) k → Contains (flat_map keys_before ys) k
    each e found here =
        let inside : here.0 < length (keys_before (get_or ys found.0 e)) = rw found.2 here.1 in
        let before = length-flat_map-take keys_before ys found.0 e found.1 in (
          length (flat_map keys_before (take found.0 ys)) + here.0,
          omega (arith, before, inside),
          get_or-flat_map keys_before ys found.0 here.0 e k found.1 inside ∙ rw found.2 here.2,
        )

-- the fresh pages of items in the order of their ends are all pages of these items in the order of their keys, each once
pub fresh-distinct : (ends sorted : List PageKey) → IsPermutation ends sorted → IsSorted key_cmp sorted
    → flat_map range_keys (fresh_ranges None sorted) ≡ rising_keys (flat_map keys_before ends)
fresh-distinct ends sorted moved order = rising_keys-only (flat_map keys_before ends) (fresh_keys None sorted) (order-sorted sorted order) (λ k. (
  λ there. flat-moved sorted ends k (IsPermutation-sym ends sorted moved) (fresh-has None sorted k there),
  λ there. fresh k (flat-moved ends sorted k moved there),
))
  where
    fresh : (k : PageKey) → Contains (flat_map keys_before sorted) k → Contains (fresh_keys None sorted) k
    fresh k there = elim (has-fresh None sorted k there) [ inl is ↦ is | inr none ↦ absurd none ]

-- ---- the loop over the ends

-- at each end its range is added
pub fresh-next : (d : PageKey) (last : Option PageKey) (ends : List PageKey) (i : ℕ) (old new : List KeyRange) (r : KeyRange)
    → old ++ fresh_ranges last (drop i ends) ≡ fresh_ranges None ends → i < length ends
    → r ≡ fresh_range last (slice_index_or ends i d) → new ≡ old ++ r ∷ []
    → new ++ fresh_ranges (Some (slice_index_or ends i d)) (drop (i + 1) ends) ≡ fresh_ranges None ends
fresh-next d last ends i old new r so_far inside is added =
    ap (λ (rs : List KeyRange). rs ++ later) added
    ∙ append_assoc old (r ∷ []) later
    ∙ ap (λ (x : KeyRange). old ++ x ∷ later) is
    ∙ sym (at_drop_more (λ es. old ++ fresh_ranges last es) ends i d inside)
    ∙ so_far
  where
    later : List KeyRange
    later = fresh_ranges (Some (slice_index_or ends i d)) (drop (i + 1) ends)

-- and after the last one all ranges were added
pub fresh-end : (last : Option PageKey) (ends : List PageKey) (i : ℕ) (ranges : List KeyRange)
    → ranges ++ fresh_ranges last (drop i ends) ≡ fresh_ranges None ends → length ends ≤ i → ranges ≡ fresh_ranges None ends
fresh-end last ends i ranges so_far over =
    sym (append-nil ranges) ∙ sym (at_drop_all (λ es. ranges ++ fresh_ranges last es) ends i over) ∙ so_far
