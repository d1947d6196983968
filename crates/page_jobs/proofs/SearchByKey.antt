-- In keys that rise a binary search finds the slot of a key, and pages go by their keys.
use Rattle.std.proofs.Common.{◌≡◌, ℕ, ◌+◌, ◌<◌, false, List, [], ◌∷◌, length, map, Some, None, get_or, refl, ap, sym, ◌∙◌, arith, inl, inr, nat_lt, lt-ltb, suc}
use Rattle.std.specs.Prelude.{Result, Ok, Err, slice_get}
use Rattle.std.specs.Result.{result_ok}
use Rattle.std.specs.List.{All, position_or_len}
use Rattle.std.proofs.lemmas.List.Quantifiers.{position-Some}
use Rattle.std.proofs.lemmas.List.Sums.{position_or_len_is}
use Rattle.std.proofs.lemmas.Option.{get_or_from_slice_get, slice_get_within}
use Rattle.std.proofs.lemmas.Bool.{cases_lt}
use Rattle.std.proofs.lemmas.Bool.Decides.{nat_tests}
use Rattle.std.specs.List.Sorted.{IsBinarySearchResult, IsNonDecreasingBy, IsSearchInRange}
use Rattle.std.specs.Ordering.{is_eq, is_lt, ordering_index, ordering_reverse}
use Rattle.std.specs.Cmp.{alike_right, tied_itself}
use Rattle.std.specs.declared.cmp.Ordering.TheVariants.{Less, Equal}
use Rattle.std.proofs.lemmas.List.{get_or-map}
use Rattle.std.proofs.lemmas.List.Sorted.{searchable_from_sorted}
use Rattle.rim_desc.specs.declared.source.Source.{Source}
use Rattle.page_jobs.specs.Key.{IsRising, key_cmp}
use Rattle.page_jobs.specs.Page.{IsPageOf, PageView, page_named}
use Rattle.page_jobs.specs.Table.{page_keys_of, slot_of}
use Rattle.std.proofs.lemmas.List.{length-map}
use Rattle.page_jobs.specs.declared.page.PageKey.{PageKey}
use Rattle.page_jobs.proofs.OrderOfKeys.{key-equal, key_total}

module _ {X : Type 0} (view : X → PageView) (xs : List X) (rising : IsRising (page_keys_of (map view xs))) where
  below : (i j : ℕ) (d : X) → i < j → j < length xs → key_cmp (view (get_or xs i d)).key (view (get_or xs j d)).key ≡ Less
  below i j d low high =
      let first : i < length xs = omega arith in
      let size : length (page_keys_of (map view xs)) ≡ length xs = simp length-map in
      let inside : j < length (page_keys_of (map view xs)) = omega arith in
      rw (← key_at i d first, ← key_at j d high) (rising i j (view d).key low inside)
    where
      key_at : (k : ℕ) (d : X) → k < length xs → get_or (page_keys_of (map view xs)) k (view d).key ≡ (view (get_or xs k d)).key
      key_at k d low =
          let inside : k < length (map view xs) = simp length-map low in
          get_or-map (λ p. p.key) (map view xs) k (view d) (view d).key inside ∙ ap (λ p. p.key) (get_or-map view xs k d (view d) low)

  module _ (key : PageKey) where
    -- no element before an equal one is equal
    before : (i k : ℕ) (d : X) → i < length xs → key_cmp (view (get_or xs i d)).key key ≡ Equal → k < i → is_eq (key_cmp (view (get_or xs k d)).key key) ≡ false
    before i k d high same low =
        ap is_eq (sym (alike_right key_total (view (get_or xs i d)).key key (view (get_or xs k d)).key same) ∙ below k i d low high)

    size : length (map view xs) ≡ length xs
    size = length-map xs view

    test_at : (k : ℕ) (d : X) → k < length xs → is_eq (key_cmp (get_or (map view xs) k (view d)).key key) ≡ is_eq (key_cmp (view (get_or xs k d)).key key)
    test_at k d low = ap (λ p. is_eq (key_cmp p.key key)) (get_or-map view xs k d (view d) low)

    -- the place of an element with an equal key
    found : (i : ℕ) (d : X) → i < length xs → key_cmp (view (get_or xs i d)).key key ≡ Equal → slot_of (map view xs) key ≡ Some i
    found i d low same =
        let there : i < length (map view xs) = omega (arith, size) in
        let first : position_or_len (λ p. is_eq (key_cmp p.key key)) (map view xs) ≡ i =
        position_or_len_is (λ p. is_eq (key_cmp p.key key)) (map view xs) i (view d) (omega arith)
        (λ k before_i. test_at k d (omega arith) ∙ before i k d low same before_i)
        (λ h. test_at i d low ∙ ap is_eq same) in
        rw (first, lt-ltb i (length (map view xs)) there) refl

    -- no place where no element has an equal key
    absent : (d : X) → ((k : ℕ) → k < length xs → is_eq (key_cmp (view (get_or xs k d)).key key) ≡ false) → slot_of (map view xs) key ≡ None
    absent d none =
        let past : position_or_len (λ p. is_eq (key_cmp p.key key)) (map view xs) ≡ length (map view xs) =
        position_or_len_is (λ p. is_eq (key_cmp p.key key)) (map view xs) (length (map view xs)) (view d) (omega arith)
        (λ k low. let inside : k < length xs = omega (arith, size) in test_at k d inside ∙ none k inside)
        (λ h. absurd (omega arith)) in
        rw (past, not_below (length (map view xs))) refl
      where
        not_below : (n : ℕ) → nat_lt n n ≡ false
        not_below n = grind (arith, nat_tests)

    -- the keys are in order for a search
    searchable : IsNonDecreasingBy (λ y. ordering_index (key_cmp (view y).key key)) xs
    searchable = searchable_from_sorted key_total (λ y. (view y).key) xs key
        (λ k d low high. let after : k < k + 1 =
        omega arith in not_less (view (get_or xs k d)).key (view (get_or xs (k + 1) d)).key (below k (k + 1) d after high))
      where
        not_less : (a b : PageKey) → key_cmp a b ≡ Less → is_lt (key_cmp b a) ≡ false
        not_less a b less = ap is_lt (key_total.antisymm b a ∙ ap ordering_reverse less)

    answered : (d : X) (r : Result ℕ ℕ) → IsSearchInRange r (length xs) → IsBinarySearchResult (λ y. key_cmp (view y).key key) xs r
        → result_ok r ≡ slot_of (map view xs) key
    answered d (Ok i) low same = sym (found i d low (same d))
    answered d (Err i) low split =
        let parts = split searchable in
        sym (absent d (λ k inside. elim (cases_lt k i) [
          | inl before_i ↦ ap is_eq (parts.0 k d (omega arith) before_i)
          | inr after_i ↦ ap is_eq (parts.1 k d after_i inside)
        ]))

-- what a binary search answers is the slot of the key
pub search-slot_of : {X : Type 0} (view : X → PageView) (xs : List X) → IsRising (page_keys_of (map view xs)) → (key : PageKey) (r : Result ℕ ℕ)
    → IsSearchInRange r (length xs) → IsBinarySearchResult (λ y. key_cmp (view y).key key) xs r → result_ok r ≡ slot_of (map view xs) key
search-slot_of view [] rising key (Ok i) low found = absurd (omega arith)
search-slot_of view [] rising key (Err i) low found = refl
search-slot_of view (x ∷ xs) rising key r low found = answered view (x ∷ xs) rising key x r low found

-- ---- keys, pages and slots

-- the page in the slot of a key has the key
pub slot-key : (pages : List PageView) (key : PageKey) (j : ℕ) (p : PageView) → slot_of pages key ≡ Some j → slice_get pages j ≡ Some p → p.key ≡ key
slot-key pages key j p at here =
    let found = position-Some (λ q. is_eq (key_cmp q.key key)) pages j p at in
    key-equal p.key key (rw (get_or_from_slice_get pages j p p here) at found.1)

map-same : (pages : List PageView) → map (λ p. p) pages ≡ pages
map-same [] = refl
map-same (p ∷ pages) = ap (λ (rest : List PageView). p ∷ rest) (map-same pages)

-- and each page is in the slot of its key
pub slot-page : (pages : List PageView) → IsRising (page_keys_of pages) → (j : ℕ) (p : PageView) → slice_get pages j ≡ Some p → slot_of pages p.key ≡ Some j
slot-page pages rising j p at =
    let same : key_cmp p.key p.key ≡ Equal = tied_itself key_total p.key in
    let here : get_or pages j p ≡ p = get_or_from_slice_get pages j p p at in
    let all : IsRising (page_keys_of (map (λ q. q) pages)) = rw (map-same pages) rising in
    rw (map-same pages) at (found (λ q. q) pages all p.key j p (slice_get_within pages j p at) (rw here same))

-- pages of items go by their keys
pub same-page : (items : Source → List ℕ) (p q : PageView) → IsPageOf items p → IsPageOf items q → p.key ≡ q.key → p ≡ q
same-page items p q first second one = first ∙ ap (page_named items) one ∙ sym second

pub pages-named : (items : Source → List ℕ) (pages : List PageView) → All (IsPageOf items) pages → pages ≡ map (page_named items) (page_keys_of pages)
pages-named items [] all = refl
pages-named items (p ∷ pages) all =
    ap (λ (q : PageView). q ∷ pages) (all 0 p (omega arith))
    ∙ ap (λ (rest : List PageView). page_named items p.key ∷ rest) (pages-named items pages (λ k d low. all (suc k) d (omega arith)))
