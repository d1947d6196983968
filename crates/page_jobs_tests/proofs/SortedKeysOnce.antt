-- Keys that are sorted and lose their repeats are the list's keys in their order, each once.
use Rattle.std.proofs.Common.{◌≡◌, ◌+◌, ◌<◌, Bool, true, false, cond, List, [], ◌∷◌, length, map, get_or, refl, ap, sym, subst, ◌∙◌, arith}
use Rattle.std.specs.List.{All, Contains, dedup, dedup_from}
use Rattle.std.specs.List.Sorted.{IsPermutation, IsSorted, IsSortedByKey}
use Rattle.std.specs.Cmp.{eq_by_cmp_equiv}
use Rattle.std.specs.Ordering.{eq_by_cmp}
use Rattle.std.proofs.lemmas.List.{get_or-map, length-map}
use Rattle.std.proofs.lemmas.List.Elements.{All-contains_itself}
use Rattle.std.proofs.lemmas.List.Kept.{Contains-dedup, Contains-from_dedup, IsStrictlySortedBy-dedup}
use Rattle.std.proofs.lemmas.List.Sorted.{Contains-permutation, IsPermutation-map, IsPermutation-sym}
use Rattle.page_jobs.specs.Key.{IsRising, key_cmp, rising_keys}
use Rattle.page_jobs.specs.Page.{page_view}
use Rattle.page_jobs.specs.Table.{page_keys_of}
use Rattle.page_jobs.specs.declared.page.Page.{Page}
use Rattle.page_jobs.specs.declared.page.PageKey.{PageKey}
use Rattle.page_jobs.proofs.OrderOfKeys.{key-equal, key_total}
use Rattle.page_jobs.proofs.RisingKeys.{rising_keys-only, rising_keys-rise}

abbrev equal_keys : PageKey → PageKey → Bool
equal_keys a b = eq_by_cmp key_cmp a b

module _ {X : Type 0} (key : X → PageKey) where
  abbrev pub one_key : X → X → Bool
  one_key x y = equal_keys (key x) (key y)

  map-dedup_from : (last : X) (xs : List X) → map key (dedup_from one_key last xs) ≡ dedup_from equal_keys (key last) (map key xs)
  map-dedup_from last [] = refl
  map-dedup_from last (x ∷ xs) = at (equal_keys (key x) (key last)) (map-dedup_from last xs) (map-dedup_from x xs)
    where
      at : (b : Bool) → map key (dedup_from one_key last xs) ≡ dedup_from equal_keys (key last) (map key xs)
          → map key (dedup_from one_key x xs) ≡ dedup_from equal_keys (key x) (map key xs)
          → map key (cond b (dedup_from one_key last xs) (last ∷ dedup_from one_key x xs))
          ≡ cond b (dedup_from equal_keys (key last) (map key xs)) (key last ∷ dedup_from equal_keys (key x) (map key xs))
      at true dropped kept = dropped
      at false dropped kept = ap (λ (keys : List PageKey). key last ∷ keys) kept

  map-dedup : (xs : List X) → map key (dedup one_key xs) ≡ dedup equal_keys (map key xs)
  map-dedup [] = refl
  map-dedup (x ∷ xs) = map-dedup_from x xs

  sorted-keys : (xs : List X) → IsSortedByKey key key_cmp xs → IsSorted key_cmp (map key xs)
  sorted-keys [] sorted = λ k d low high. absurd (omega arith)
  sorted-keys (x ∷ xs) sorted = λ k d low high.
      let inside : k + 1 < length (x ∷ xs) = omega (arith, length-map (x ∷ xs) key) in
      let before : k < length (x ∷ xs) = omega arith in
      rw (get_or-map key (x ∷ xs) (k + 1) x d inside, get_or-map key (x ∷ xs) k x d before) (sorted k x low inside)

  -- a sorted list without repeats has the keys of the list that it was made of, in their order
  keys-distinct : (xs ys : List X) → IsPermutation xs ys → IsSortedByKey key key_cmp ys → map key (dedup one_key ys) ≡ rising_keys (map key xs)
  keys-distinct xs ys moved sorted =
      map-dedup ys ∙ rising_keys-only (map key xs) (dedup equal_keys (map key ys))
      (IsStrictlySortedBy-dedup key_total (λ a b. refl) (map key ys) (sorted-keys ys sorted))
      (λ k. (
        λ there. Contains-permutation (map key ys) (map key xs) k (IsPermutation-sym (map key xs) (map key ys) (IsPermutation-map key xs ys moved)) (Contains-from_dedup equal_keys (map key ys) k there),
        λ there. Contains-dedup (eq_by_cmp_equiv key_total) key-equal (map key ys) k (Contains-permutation (map key xs) (map key ys) k (IsPermutation-map key xs ys moved) there),
      ))

-- ---- pages

abbrev pub page_key : Page → PageKey
page_key page = page.key

keys_of-views : (pages : List Page) → page_keys_of (map page_view pages) ≡ map page_key pages
keys_of-views [] = refl
keys_of-views (page ∷ pages) = ap (λ (keys : List PageKey). page.key ∷ keys) (keys_of-views pages)

module _ (before sorted after : List Page) (moved : IsPermutation before sorted) (kept : after ≡ dedup (one_key page_key) sorted) where
  pub keys-after : IsSortedByKey page_key key_cmp sorted → page_keys_of (map page_view after) ≡ rising_keys (page_keys_of (map page_view before))
  keys-after order =
      keys_of-views after ∙ ap (map page_key) kept ∙ keys-distinct page_key before sorted moved order ∙ ap rising_keys (sym (keys_of-views before))

  pub rising-after : IsSortedByKey page_key key_cmp sorted → IsRising (page_keys_of (map page_view after))
  rising-after order = subst IsRising (sym (keys-after order)) (rising_keys-rise (page_keys_of (map page_view before)))

  pub contains-after : All (Contains before) after
  contains-after = λ k d low.
      let page = get_or after k d in
      let there : Contains (dedup (one_key page_key) sorted) page = subst (λ pages. Contains pages page) kept (All-contains_itself after k d low) in
      Contains-permutation sorted before page (IsPermutation-sym before sorted moved) (Contains-from_dedup (one_key page_key) sorted page there)
