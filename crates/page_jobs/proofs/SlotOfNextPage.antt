-- Which keys have slots, and where the slot of an item's next page is.
use Rattle.std.proofs.Common.{◌≡◌, ℕ, ◌+◌, ◌<◌, ◌⊎◌, List, [], length, Some, None, Option, get_or, is_some, true, refl, ap, sym, subst, ◌∙◌, arith, inl, inr}
use Rattle.std.specs.Prelude.{◌↔◌, IsSome}
use Rattle.std.specs.List.{Contains}
use Rattle.std.specs.Cmp.{IsTotalOrder, nat_cmp_is, nat_cmp_total, ranks, tied_itself}
use Rattle.std.specs.Ordering.{MatchOrdering, nat_cmp, ordering_reverse, ordering_then}
use Rattle.std.specs.declared.cmp.Ordering.{Ordering}
use Rattle.std.specs.declared.cmp.Ordering.TheVariants.{Less, Equal, Greater}
use Rattle.std.proofs.lemmas.List.{get_or-map, length-map}
use Rattle.std.proofs.lemmas.List.Quantifiers.{position-Some}
use Rattle.std.proofs.lemmas.Option.{slice_get-get_or}
use Rattle.std.specs.Ordering.{is_eq}
use Rattle.rim_desc.specs.Measurement.{algo_value}
use Rattle.rim_desc.proofs.OrderOfSources.{source_total}
use Rattle.page_jobs.specs.Key.{IsRising, key_cmp, next_key}
use Rattle.page_jobs.specs.Page.{PageView}
use Rattle.page_jobs.specs.Table.{page_keys_of, slot_of}
use Rattle.page_jobs.specs.declared.page.PageKey.{PageKey}
use Rattle.page_jobs.proofs.SearchByKey.{slot-key, slot-page}
use Rattle.page_jobs.proofs.OrderOfKeys.{key_total, not-itself}

-- ---- no key is between that of a page and that of the next

then-less : (o u v : Ordering) → ordering_then o u ≡ Less → ordering_then (ordering_reverse o) v ≡ Less → (u ≡ Less) × (v ≡ Less)
then-less Less u v first second = absurd (cc)
then-less Equal u v first second = (first, second)
then-less Greater u v first second = absurd (cc)

-- what decides between two values that one order holds equal, both ways round
both-less : {X : Type 0} {R : X → X → Ordering} → IsTotalOrder R → (x y : X) (u v : Ordering) → ordering_then (R x y) u ≡ Less → ordering_then (R y x) v ≡ Less
    → (u ≡ Less) × (v ≡ Less)
both-less {R = R} total x y u v first second =
    then-less (R x y) u v first (ap (λ o. ordering_then o v) (sym (total.antisymm y x)) ∙ second)

below-number : (m n : ℕ) → nat_cmp m n ≡ Less → m < n
below-number m n less = let P : Ordering → Type 0 = λ o. MatchOrdering o (m < n) (m ≡ n) (n < m) in subst P less (ranks m n)

pub none-between : (key other : PageKey) → key_cmp key other ≡ Less → key_cmp other (next_key key) ≡ Less → ⊥
none-between key other after before =
    let algo = both-less nat_cmp_total (algo_value key.algo) (algo_value other.algo) _ _ after before in
    let source = both-less source_total key.source other.source _ _ algo.0 algo.1 in
    let lead = both-less nat_cmp_total key.lead other.lead _ _ source.0 source.1 in
    let low : key.number < other.number = below-number _ _ lead.0 in
    let high : other.number < key.number + 1 = below-number _ _ lead.1 in
    omega arith

after-itself : (key : PageKey) → key_cmp key (next_key key) ≡ Less
after-itself key =
    then-equal _ _ (tied_itself nat_cmp_total (algo_value key.algo)) ∙ then-equal _ _ (tied_itself source_total key.source)
    ∙ then-equal _ _ (tied_itself nat_cmp_total key.lead) ∙ sym (nat_cmp_is key.number (key.number + 1) Less (omega arith))
  where
    then-equal : (o u : Ordering) → o ≡ Equal → ordering_then o u ≡ u
    then-equal o u same = ap (λ first. ordering_then first u) same

-- in keys that rise, the key of the next page is at the next place
next-place : (keys : List PageKey) → IsRising keys → (key : PageKey) (i j : ℕ) → i < length keys → j < length keys → get_or keys j (next_key key) ≡ key
    → get_or keys i (next_key key) ≡ next_key key → i ≡ j + 1
next-place keys rising key i j first second here last = elim (ways i j) [
  | inl same ↦ same
  | inr other ↦ absurd (elim other [
    | inl low ↦ not-itself key (key_total.trans key (next_key key) key (after-itself key) (compared i j low second last here))
    | inr later ↦ elim later [
      | inl one ↦ not-itself key (ap (key_cmp key) (sym here ∙ ap (λ n. get_or keys n (next_key key)) (sym one) ∙ last) ∙ after-itself key)
      | inr high ↦
          none-between key (get_or keys (j + 1) (next_key key)) (compared j (j + 1) (omega arith) (omega arith) here refl)
          (compared (j + 1) i high first refl last)
    ]
  ])
]
  where
    ways : (i j : ℕ) → (i ≡ j + 1) ⊎ ((i < j) ⊎ ((i ≡ j) ⊎ (j + 1 < i)))
    ways i j = grind arith

    compared : {a b : PageKey} (m n : ℕ) → m < n → n < length keys → get_or keys m (next_key key) ≡ a → get_or keys n (next_key key) ≡ b → key_cmp a b ≡ Less
    compared {a} m n low inside one other =
        sym (ap (λ x. key_cmp x (get_or keys n (next_key key))) one ∙ ap (key_cmp a) other) ∙ rising m n (next_key key) low inside

-- ---- slots

page_with : PageKey → PageView
page_with key = record { key = key; bytes = [] }

key-page : (pages : List PageView) (key : PageKey) (i : ℕ) → i < length pages → get_or (page_keys_of pages) i key ≡ (get_or pages i (page_with key)).key
unfolding page_with
key-page pages key i low = get_or-map (λ p. p.key) pages i (page_with key) key low

-- a key has its place among the keys for its slot
slot-there : (pages : List PageView) (key : PageKey) → IsRising (page_keys_of pages) → (there : Contains (page_keys_of pages) key)
    → slot_of pages key ≡ Some there.0
slot-there pages key rising there =
    let low : there.0 < length pages = omega (arith, there.1, length-map pages (λ (p : PageView). p.key)) in
    let page = get_or pages there.0 (page_with key) in
    let same : page.key ≡ key = sym (key-page pages key there.0 low) ∙ there.2 in
    ap (slot_of pages) (sym same) ∙ slot-page pages rising there.0 page (slice_get-get_or pages there.0 (page_with key) low)

slot-within : (pages : List PageView) (key : PageKey) (j : ℕ) → slot_of pages key ≡ Some j → j < length pages
slot-within pages key j at = (position-Some (λ p. is_eq (key_cmp p.key key)) pages j (page_with key) at).0

-- and the key in its slot is itself
key-slot : (pages : List PageView) (key other : PageKey) (j : ℕ) → slot_of pages key ≡ Some j → get_or (page_keys_of pages) j other ≡ key
key-slot pages key other j at =
    let low = slot-within pages key j at in
    key-page pages other j low ∙ slot-key pages key j (get_or pages j (page_with other)) at (slice_get-get_or pages j (page_with other) low)

slot-contains : (pages : List PageView) (key : PageKey) (slot : Option ℕ) → slot_of pages key ≡ slot → is_some slot ≡ true → Contains (page_keys_of pages) key
slot-contains pages key None at some = absurd (cc)
slot-contains pages key (Some j) at some =
    let low : j < length pages = slot-within pages key j at in
    (j, omega (arith, low, length-map pages (λ (p : PageView). p.key)), key-slot pages key key j at)

pub slots-there : (pages : List PageView) → IsRising (page_keys_of pages) → (key : PageKey) → IsSome (slot_of pages key) ↔ Contains (page_keys_of pages) key
slots-there pages rising key = (λ some. slot-contains pages key (slot_of pages key) refl some, λ there. ap is_some (slot-there pages key rising there))

-- the slot of the next page is the next one
pub slot-next : (pages : List PageView) → IsRising (page_keys_of pages) → (key : PageKey) (j : ℕ) → slot_of pages key ≡ Some j
    → Contains (page_keys_of pages) (next_key key)
    → slot_of pages (next_key key) ≡ Some (j + 1)
slot-next pages rising key j at there =
    let inside : j < length (page_keys_of pages) = omega (arith, slot-within pages key j at, length-map pages (λ (p : PageView). p.key)) in
    slot-there pages (next_key key) rising there
    ∙ ap (λ (n : ℕ). Some n) (next-place (page_keys_of pages) rising key there.0 j there.1 inside (key-slot pages key (next_key key) j at) there.2)
