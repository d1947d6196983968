-- The pages that launches need are those of their own plans.
use Rattle.std.proofs.Common.{◌≡◌, ℕ, zero, suc, ◌+◌, ◌-◌, ◌<◌, ◌≤◌, ◌^◌, Bool, true, false, not, List, [], ◌∷◌, ◌++◌, length, get_or, is_some, map, take}
use Rattle.std.proofs.Common.{Option, Some, None, refl, sym, ap, ◌∙◌, subst, arith, inl, inr}
use Rattle.std.specs.Prelude.{◌==◌, ◌⊎◌, if◌then◌else◌}
use Rattle.std.specs.List.{All, Contains, flat_map, list_all, range_with_len, slice_get}
use Rattle.std.specs.List.Sorted.{IsPermutation}
use Rattle.std.proofs.lemmas.List.{append-nil, append_assoc}
use Rattle.std.proofs.lemmas.List.Elements.{All-append, All-cons, All-contains, All-contains_itself, All-nil, Contains-append_cases}
use Rattle.std.proofs.lemmas.List.Elements.{Contains-append_left, Contains-append_right, Contains-get_or}
use Rattle.std.proofs.lemmas.List.Folds.{list_all_at}
use Rattle.std.proofs.lemmas.List.FromFn.{get_or-map-range_with_len, get_or-range_with_len, length-map-range_with_len, length-range_with_len}
use Rattle.std.proofs.lemmas.List.Sorted.{All-permutation, Contains-permutation}
use Rattle.std.proofs.lemmas.Bool.{cases_Bool, cases_eq, cases_lt, eq-eqb, ne_eqb, true≢false}
use Rattle.std.proofs.lemmas.Bool.Decides.{nat_tests}
use Rattle.std.proofs.lemmas.Option.{get_or_from_slice_get, none-some, slice_get_within, same_Some}
use Rattle.page_jobs.specs.Key.{IsRising}
use Rattle.page_jobs.specs.Page.{PageView}
use Rattle.page_jobs.specs.Table.{IsTable, TableView, page_keys_of as page_keys, slot_of}
use Rattle.page_jobs.specs.declared.page.PageKey.{PageKey}
use Rattle.page_jobs.proofs.SearchByKey.{slot-page}
use Rattle.page_jobs.proofs.SlotOfNextPage.{slots-there}
use Rattle.launch_plan.specs.Fitting.{BeginsItem}
use Rattle.launch_plan.specs.Links.{PlanView, key_after, keys_in, keys_of}
use Rattle.launch_plan.specs.declared.link.Link.{Link}
use Rattle.launch_plan.specs.declared.link.Link.TheVariants.{Blocks, Pages, Unmeasured, Rec}
use Rattle.job_board.specs.Board.{IsNeeded, IsOwnPage, NeedsOwn}
use Rattle.job_board.specs.declared.grouping.Stretch.{Stretch}
use Rattle.job_board.specs.inside.Grouping.{AreStretches, IsGrouped, Precedes, own_pages}
use Rattle.job_core.specs.declared.reaches.PageGroup.{PageGroup}
use Rattle.job_core.specs.inside.Reaches.{AreGroups, reach_needs}
use Rattle.job_board.specs.inside.OwnStretches.{link_stretches, plan_stretches, stretch_at, stretches_from}
use Rattle.job_board.proofs.GroupsOfStretches.{grouped_are}
use Rattle.job_board.proofs.SlotsInARow.{page_in, slots_follow}

-- ---- a stretch has pages of its launch's plan

-- pages of a launch's plan, of which the first has number 0 among those of its item
pub record IsOwn (pages : List PageView) (plans : List PlanView) (s : Stretch) : Type 0 where
  pub some : 0 < s.count
  pub plan : PlanView
  pub at : slice_get plans s.launch ≡ Some plan
  pub own : (n : ℕ) → n < s.count → (u : PageView) × (slice_get pages (s.first + n) ≡ Some u) × (u.key.number ≡ n) × Contains (keys_of plan.links) u.key

-- a stretch of a launch has the slot of a key
abbrev pub HasSlot : List PageView → ℕ → PageKey → Stretch → Type 0
HasSlot pages l key s = (j : ℕ) × (slot_of pages key ≡ Some j) × Contains (own_pages l s) j

-- one of some stretches is of a launch and has the page of a key
abbrev pub HasPage : List PageView → List Stretch → ℕ → PageKey → Type 0
HasPage pages ss l key = (s : Stretch) × Contains ss s × HasSlot pages l key s

-- as many keys from one on
abbrev pub keys_after : PageKey → ℕ → List PageKey
keys_after key count = map (key_after key) (range_with_len 0 count)

-- each of some keys is one of these
abbrev pub AreAmong : List PageKey → List PageKey → Type 0
AreAmong keys others = All (Contains keys) others

after_at : (key : PageKey) (count n : ℕ) (d : PageKey) → n < count → get_or (keys_after key count) n d ≡ key_after key n
after_at key count n d lt = get_or-map-range_with_len (key_after key) 0 count n n d lt (omega arith)

after_in : (key : PageKey) (count n : ℕ) → n < count → Contains (keys_after key count) (key_after key n)
after_in key count n lt = (n, omega (arith, lt, length-map-range_with_len (key_after key) 0 count), after_at key count n (key_after key n) lt)

first_key : (key : PageKey) → key_after key 0 ≡ key
first_key key = let e : key.number + 0 ≡ key.number = omega arith in ap (λ (n : ℕ). let k : PageKey = record key { number = n } in k) e

-- ---- lists that are joined have what one of them has

module _ {X Y : Type 0} (f : X → List Y) where
  joined_has : (xs : List X) (x : X) (y : Y) → Contains xs x → Contains (f x) y → Contains (flat_map f xs) y
  joined_has [] x y there has = absurd (omega (arith, there.1))
  joined_has (first ∷ xs) x y (zero, lt, at) has = Contains-append_left (f first) (flat_map f xs) y (subst (λ (z : X). Contains (f z) y) (sym at) has)
  joined_has (first ∷ xs) x y (suc k, lt, at) has = Contains-append_right (f first) (flat_map f xs) y (joined_has xs x y (k, omega (arith, lt), at) has)

  joined_from : (xs : List X) (y : Y) → Contains (flat_map f xs) y → (x : X) × Contains xs x × Contains (f x) y
  joined_from [] y has = absurd (omega (arith, has.1))
  joined_from (first ∷ xs) y has = by (joined_from xs y) (Contains-append_cases (f first) (flat_map f xs) y has)
    where
      by : (Contains (flat_map f xs) y → (x : X) × Contains xs x × Contains (f x) y) → Contains (f first) y ⊎ Contains (flat_map f xs) y
          → (x : X) × Contains (first ∷ xs) x × Contains (f x) y
      by others (inl here) = (first, (0, omega arith, refl), here)
      by others (inr later) = let rest = others later in (rest.0, (suc rest.1.0, omega (arith, rest.1.1), rest.1.2), rest.2)

  joined_each : (P : Y → Type 0) (xs : List X) (x : X) → All P (flat_map f xs) → Contains xs x → All P (f x)
  joined_each P xs x all there = λ i d lt.
      All-contains P (flat_map f xs) (get_or (f x) i d) all (joined_has xs x (get_or (f x) i d) there (Contains-get_or (f x) i d lt))

-- ---- the pages of a launch's stretch

chosen : (l : ℕ) (s : Stretch) → s.launch ≡ l → own_pages l s ≡ range_with_len s.first s.count
chosen l s is = rw (eq-eqb s.launch l is) refl

has_place : (l : ℕ) (s : Stretch) (n : ℕ) → s.launch ≡ l → n < s.count → Contains (own_pages l s) (s.first + n)
has_place l s n is lt =
    subst (λ (xs : List ℕ). Contains xs (s.first + n)) (sym (chosen l s is))
    (n, omega (arith, lt, length-range_with_len s.first s.count), get_or-range_with_len s.first s.count n (s.first + n) lt)

place_of : (l : ℕ) (s : Stretch) (j : ℕ) → Contains (own_pages l s) j → (s.launch ≡ l) × (n : ℕ) × (n < s.count) × (s.first + n ≡ j)
place_of l s j has = by (cases_eq s.launch l)
  where
    by : (s.launch ≡ l) ⊎ (s.launch ≡ l → ⊥) → (s.launch ≡ l) × (n : ℕ) × (n < s.count) × (s.first + n ≡ j)
    by (inl is) =
        let ranged = subst (λ (xs : List ℕ). Contains xs j) (chosen l s is) has in
        let lt : ranged.0 < s.count = omega (arith, ranged.1, length-range_with_len s.first s.count) in
        (is, ranged.0, lt, sym (get_or-range_with_len s.first s.count ranged.0 j lt) ∙ ranged.2)
    by (inr other) =
        let none = subst (λ (b : Bool). Contains (if b then range_with_len s.first s.count else []) j) (ne_eqb s.launch l other) has in
        absurd (omega (arith, none.1))

-- ---- the pages of a link

module _ (pages : List PageView) (rising : IsRising (page_keys pages)) (plans : List PlanView) (l : ℕ) (p : PlanView) (plan : slice_get plans l ≡ Some p) where
  has_keys : (key : PageKey) (count : ℕ) → AreAmong (page_keys pages) (keys_after key count) → (n : ℕ) → n < count
      → Contains (page_keys pages) (key_after key n)
  has_keys key count has n lt = All-contains (Contains (page_keys pages)) (keys_after key count) (key_after key n) has (after_in key count n lt)

  pages_own : (key : PageKey) (count : ℕ) → key.number ≡ 0 → AreAmong (page_keys pages) (keys_after key count)
      → AreAmong (keys_of p.links) (keys_after key count) → (o : Option ℕ) → slot_of pages key ≡ o → All (IsOwn pages plans) (stretch_at l count o)
  pages_own key count begins has among None at = All-nil (IsOwn pages plans)
  pages_own key count begins has among (Some j) at = by_count (cases_Bool (count == 0))
    where
      by_count : ((count == 0) ≡ true) ⊎ ((count == 0) ≡ false) → All (IsOwn pages plans) (stretch_at l count (Some j))
      by_count (inl none) = rw none (All-nil (IsOwn pages plans))
      by_count (inr some) = rw some (All-cons (IsOwn pages plans) _ [] (record {
        some = grind (arith, nat_tests);
        plan = p;
        at = plan;
        own = λ n lt.
            let slot = slots_follow pages rising key j count at (has_keys key count has) n lt in
            let here = page_in pages (key_after key n) (j + n) slot in
            let number : here.0.key.number ≡ n = ap (λ (k : PageKey). k.number) here.2 ∙ omega (arith, begins) in
            let one = All-contains (Contains (keys_of p.links)) (keys_after key count) (key_after key n) among (after_in key count n lt) in
            (here.0, here.1, number, subst (Contains (keys_of p.links)) (sym here.2) one);
      }) (All-nil (IsOwn pages plans)))

  link_own : (k : Link) → BeginsItem k → AreAmong (page_keys pages) (keys_in k) → AreAmong (keys_of p.links) (keys_in k)
      → All (IsOwn pages plans) (link_stretches pages l k)
  link_own (Blocks base size count) begins has among = All-nil (IsOwn pages plans)
  link_own (Pages ipa key count) begins has among = pages_own key count begins has among (slot_of pages key) refl
  link_own (Unmeasured ipa count) begins has among = All-nil (IsOwn pages plans)
  link_own (Rec content) begins has among = All-nil (IsOwn pages plans)

  links_own : (ks : List Link) → All BeginsItem ks → AreAmong (page_keys pages) (keys_of ks) → AreAmong (keys_of p.links) (keys_of ks)
      → All (IsOwn pages plans) (flat_map (link_stretches pages l) ks)
  links_own ks begin has among = λ i d lt.
      let all = flat_map (link_stretches pages l) ks in
      let s = get_or all i d in
      let link = joined_from (link_stretches pages l) ks s (Contains-get_or all i d lt) in
      All-contains (IsOwn pages plans) (link_stretches pages l link.0) s
      (link_own link.0 (All-contains BeginsItem ks link.0 begin link.1) (joined_each keys_in (Contains (page_keys pages)) ks link.0 has link.1)
      (joined_each keys_in (Contains (keys_of p.links)) ks link.0 among link.1)) link.2

  -- ---- and every page is in one

  pages_there : (key : PageKey) (count : ℕ) → AreAmong (page_keys pages) (keys_after key count)
      → (n : ℕ) → n < count → (o : Option ℕ) → slot_of pages key ≡ o → HasPage pages (stretch_at l count o) l (key_after key n)
  pages_there key count has n lt None at =
      let some : 0 < count = omega (arith, lt) in
      let there : is_some (slot_of pages key) ≡ true =
      (slots-there pages rising key).1 (subst (Contains (page_keys pages)) (first_key key) (has_keys key count has 0 some)) in
      absurd (true≢false (sym there ∙ ap is_some at))
  pages_there key count has n lt (Some j) at =
      let many : (count == 0) ≡ false = grind (arith, nat_tests) in
      let s : Stretch = record { first = j; count = count; launch = l } in
      rw many (s, (0, omega arith, refl), (j + n, slots_follow pages rising key j count at (has_keys key count has) n lt, has_place l s n refl lt))

  link_there : (k : Link) → AreAmong (page_keys pages) (keys_in k) → (key : PageKey) → Contains (keys_in k) key → HasPage pages (link_stretches pages l k) l key
  link_there (Blocks base size count) has key in_it = absurd (omega (arith, in_it.1))
  link_there (Pages ipa first count) has key in_it =
      let lt : in_it.0 < count = omega (arith, in_it.1, length-map-range_with_len (key_after first) 0 count) in
      let is : key_after first in_it.0 ≡ key = sym (after_at first count in_it.0 key lt) ∙ in_it.2 in
      subst (HasPage pages (stretch_at l count (slot_of pages first)) l) is (pages_there first count has in_it.0 lt (slot_of pages first) refl)
  link_there (Unmeasured ipa count) has key in_it = absurd (omega (arith, in_it.1))
  link_there (Rec content) has key in_it = absurd (omega (arith, in_it.1))

  links_there : (ks : List Link) → AreAmong (page_keys pages) (keys_of ks) → (key : PageKey) → Contains (keys_of ks) key
      → HasPage pages (flat_map (link_stretches pages l) ks) l key
  links_there ks has key in_it =
      let link = joined_from keys_in ks key in_it in
      let page = link_there link.0 (joined_each keys_in (Contains (page_keys pages)) ks link.0 has link.1) key link.2 in
      (page.0, joined_has (link_stretches pages l) ks link.0 page.0 link.1 page.1, page.2)

-- ---- all plans

record ArePlans (pages : List PageView) (plans : List PlanView) (n : ℕ) (ps : List PlanView) : Type 0 where
  at : (k : ℕ) (p : PlanView) → slice_get ps k ≡ Some p → slice_get plans (n + k) ≡ Some p
  begin : (k : ℕ) (p : PlanView) → slice_get ps k ≡ Some p → All BeginsItem p.links
  has : (k : ℕ) (p : PlanView) → slice_get ps k ≡ Some p → AreAmong (page_keys pages) (keys_of p.links)

next_plans : (pages : List PageView) (plans : List PlanView) (n : ℕ) (p : PlanView) (ps : List PlanView) → ArePlans pages plans n (p ∷ ps)
    → ArePlans pages plans (n + 1) ps
next_plans pages plans n p ps are = record {
  at = λ k q at. let place : n + suc k ≡ n + 1 + k = omega arith in ap (slice_get plans) (sym place) ∙ are.at (suc k) q at;
  begin = λ k q at. are.begin (suc k) q at;
  has = λ k q at. are.has (suc k) q at;
}

first_at : (pages : List PageView) (plans : List PlanView) (n : ℕ) (p : PlanView) (ps : List PlanView) → ArePlans pages plans n (p ∷ ps)
    → slice_get plans n ≡ Some p
first_at pages plans n p ps are = let place : n ≡ n + 0 = omega arith in ap (slice_get plans) place ∙ are.at 0 p refl

stretches_own : (pages : List PageView) → IsRising (page_keys pages) → (plans : List PlanView) (n : ℕ) (ps : List PlanView) → ArePlans pages plans n ps
    → All (IsOwn pages plans) (stretches_from pages n ps)
stretches_own pages rising plans n [] are = All-nil (IsOwn pages plans)
stretches_own pages rising plans n (p ∷ ps) are =
    All-append (IsOwn pages plans) (plan_stretches pages n p) (stretches_from pages (n + 1) ps)
    (links_own pages rising plans n p (first_at pages plans n p ps are) p.links (are.begin 0 p refl) (are.has 0 p refl) (All-contains_itself (keys_of p.links)))
    (stretches_own pages rising plans (n + 1) ps (next_plans pages plans n p ps are))

pages_are_there : (pages : List PageView) → IsRising (page_keys pages) → (plans : List PlanView) (n : ℕ) (ps : List PlanView) → ArePlans pages plans n ps
    → (k : ℕ) (q : PlanView) → slice_get ps k ≡ Some q → (key : PageKey) → Contains (keys_of q.links) key
    → HasPage pages (stretches_from pages n ps) (n + k) key
pages_are_there pages rising plans n [] are k q at key in_it = absurd (none-some q at)
pages_are_there pages rising plans n (p ∷ ps) are zero q at key in_it =
    let same : p ≡ q = same_Some p q at in
    let own = subst (λ (r : PlanView). Contains (keys_of r.links) key) (sym same) in_it in
    let place : n ≡ n + 0 = omega arith in
    let page = links_there pages rising plans n p (first_at pages plans n p ps are) p.links (are.has 0 p refl) key own in
    let there = Contains-append_left (plan_stretches pages n p) (stretches_from pages (n + 1) ps) page.0 page.1 in
    (page.0, there, subst (λ (l : ℕ). HasSlot pages l key page.0) place page.2)
pages_are_there pages rising plans n (p ∷ ps) are (suc k) q at key in_it =
    let place : n + 1 + k ≡ n + suc k = omega arith in
    let page = pages_are_there pages rising plans (n + 1) ps (next_plans pages plans n p ps are) k q at key in_it in
    let there = Contains-append_right (plan_stretches pages n p) (stretches_from pages (n + 1) ps) page.0 page.1 in
    (page.0, there, subst (λ (l : ℕ). HasSlot pages l key page.0) place page.2)

-- ---- in order

-- a stretch begins below another, or both begin alike and the other is no shorter
abbrev pub Rises : Stretch → Stretch → Type 0
Rises a b = (a.first < b.first) ⊎ ((a.first ≡ b.first) × (a.count ≤ b.count))

rises_on : (a b c : Stretch) → Rises a b → Rises b c → Rises a c
rises_on a b c (inl lt) (inl more) = inl (omega (arith, lt, more))
rises_on a b c (inl lt) (inr same) = inl (omega (arith, lt, same.0))
rises_on a b c (inr same) (inl lt) = inl (omega (arith, lt, same.0))
rises_on a b c (inr same) (inr more) = inr (omega (arith, same.0, more.0), omega (arith, same.1, more.1))

abbrev pub AreRising : List Stretch → Type 0
AreRising ss = (k : ℕ) (d : Stretch) → k + 1 < length ss → Rises (get_or ss k d) (get_or ss (k + 1) d)

rising_pairs : (ss : List Stretch) → AreRising ss → (d : Stretch) (i n : ℕ) → i + 1 + n < length ss → Rises (get_or ss i d) (get_or ss (i + 1 + n) d)
rising_pairs ss rising d i zero lt =
    let place : i + 1 ≡ i + 1 + 0 = omega arith in
    subst (λ (k : ℕ). Rises (get_or ss i d) (get_or ss k d)) place (rising i d (omega (arith, lt)))
rising_pairs ss rising d i (suc n) lt =
    let place : i + 1 + n + 1 ≡ i + 1 + suc n = omega arith in
    let before = rising_pairs ss rising d i n (omega (arith, lt)) in
    let here = rising (i + 1 + n) d (omega (arith, lt)) in
    subst (λ (k : ℕ). Rises (get_or ss i d) (get_or ss k d)) place
    (rises_on (get_or ss i d) (get_or ss (i + 1 + n) d) (get_or ss (i + 1 + n + 1) d) before here)

-- of two stretches of pages that begin at different pages the first ends before the other, since that begins with number 0
own_precedes : (pages : List PageView) (plans : List PlanView) (a b : Stretch) → IsOwn pages plans a → IsOwn pages plans b → Rises a b → Precedes a b
own_precedes pages plans a b own other (inr same) = inr same
own_precedes pages plans a b own other (inl lt) = by (cases_lt b.first (a.first + a.count))
  where
    by : (b.first < a.first + a.count) ⊎ (a.first + a.count ≤ b.first) → Precedes a b
    by (inr apart) = inl apart
    by (inl inside) =
        let n : ℕ = b.first - a.first in
        let below : n < a.count = omega (arith, lt, inside) in
        let mine = own.own n below in
        let theirs = other.own 0 other.some in
        let place : a.first + n ≡ b.first + 0 = omega (arith, lt) in
        let same : mine.0 ≡ theirs.0 = same_Some mine.0 theirs.0 (sym mine.1 ∙ (ap (slice_get pages) place ∙ theirs.1)) in
        let number : mine.0.key.number ≡ theirs.0.key.number = ap (λ (u : PageView). u.key.number) same in
        absurd (omega (arith, number, mine.2, theirs.2, lt))

own_within : (pages : List PageView) (plans : List PlanView) (s : Stretch) → IsOwn pages plans s
    → (s.first + s.count ≤ length pages) × (0 < s.count) × (s.launch < length plans)
own_within pages plans s own =
    let some = own.some in
    let last = own.own (s.count - 1) (omega (arith, some)) in
    let within = slice_get_within pages (s.first + (s.count - 1)) last.0 last.1 in
    (omega (arith, some, within), some, slice_get_within plans s.launch own.plan own.at)

pub are_stretches : (pages : List PageView) (plans : List PlanView) (ss : List Stretch) → All (IsOwn pages plans) ss → AreRising ss
    → AreStretches (length pages) (length plans) ss
are_stretches pages plans ss own rising = record {
  each = λ k s at. own_within pages plans s (own_at k s at);
  order = λ i k a s lt aat sat.
      let n : ℕ = k - i - 1 in
      let place : i + 1 + n ≡ k = omega (arith, lt) in
      let within = slice_get_within ss k s sat in
      let pair = rising_pairs ss rising a i n (omega (arith, place, within)) in
      let first : get_or ss i a ≡ a = get_or_from_slice_get ss i a a aat in
      let second : get_or ss (i + 1 + n) a ≡ s = ap (λ (m : ℕ). get_or ss m a) place ∙ get_or_from_slice_get ss k s a sat in
      own_precedes pages plans a s (own_at i a aat) (own_at k s sat)
      (subst (λ (x : Stretch). Rises x s) first (subst (λ (x : Stretch). Rises (get_or ss i a) x) second pair));
}
  where
    own_at : (k : ℕ) (s : Stretch) → slice_get ss k ≡ Some s → IsOwn pages plans s
    own_at k s at = subst (IsOwn pages plans) (get_or_from_slice_get ss k s s at) (own k s (slice_get_within ss k s at))

-- ---- tests that find a number

abbrev other_than : ℕ → ℕ → Bool
other_than j x = not (x == j)

found : (j : ℕ) (xs : List ℕ) → list_all (other_than j) xs ≡ false → Contains xs j
found j [] falls = absurd (cc)
found j (x ∷ xs) falls = by (found j xs) (cases_eq x j)
  where
    by : (list_all (other_than j) xs ≡ false → Contains xs j) → (x ≡ j) ⊎ (x ≡ j → ⊥) → Contains (x ∷ xs) j
    by later (inl same) = (0, omega arith, same)
    by later (inr other) =
        let passed : other_than j x ≡ true = ap not (ne_eqb x j other) in
        let rest = later (rw passed at falls) in
        (suc rest.0, omega (arith, rest.1), rest.2)

not_passed : (j : ℕ) (xs : List ℕ) → Contains xs j → list_all (other_than j) xs ≡ false
not_passed j xs has = list_all_at (other_than j) xs has.0 j has.1 (ap not (eq-eqb (get_or xs has.0 j) j has.2))

-- ---- groups with just these stretches

module _ (t : TableView) (table : IsTable t) (plans : List PlanView) (ss : List Stretch) (gs : List PageGroup) (own : All (IsOwn t.pages plans) ss)
    (there : (l : ℕ) (p : PlanView) → slice_get plans l ≡ Some p → (key : PageKey) → Contains (keys_of p.links) key → HasPage t.pages ss l key)
    (index : (l : ℕ) (f : ℕ → Bool) → list_all f (reach_needs gs l) ≡ list_all f (flat_map (own_pages l) ss)) where
  key_needed : (l : ℕ) (p : PlanView) → slice_get plans l ≡ Some p → (key : PageKey) → Contains (keys_of p.links) key → IsNeeded t (reach_needs gs l) key
  key_needed l p plan key in_it =
      let has = there l p plan key in_it in
      let j : ℕ = has.2.0 in
      let needed = joined_has (own_pages l) ss has.0 j has.1 has.2.2 in
      (j, has.2.1, found j (reach_needs gs l) (index l (other_than j) ∙ not_passed j (flat_map (own_pages l) ss) needed))

  page_own : (l : ℕ) (p : PlanView) → slice_get plans l ≡ Some p → (j : ℕ) → Contains (reach_needs gs l) j → IsOwnPage t (keys_of p.links) j
  page_own l p plan j in_it =
      let of = joined_from (own_pages l) ss j (found j (flat_map (own_pages l) ss) (sym (index l (other_than j)) ∙ not_passed j (reach_needs gs l) in_it)) in
      let place = place_of l of.0 j of.2 in
      let is = All-contains (IsOwn t.pages plans) ss of.0 own of.1 in
      let page = is.own place.1 place.2 in
      let same : is.plan ≡ p = same_Some is.plan p (sym is.at ∙ (ap (slice_get plans) place.0 ∙ plan)) in
      let slot = slot-page t.pages table.rising (of.0.first + place.1) page.0 page.1 in
      (page.0.key, subst (λ (q : PlanView). Contains (keys_of q.links) page.0.key) same page.3, slot ∙ ap (λ (n : ℕ). Some n) place.3)

  needs_at : (l : ℕ) → l < length plans → get_or (map (reach_needs gs) (range_with_len 0 (length plans))) l [] ≡ reach_needs gs l
  needs_at l lt = get_or-map-range_with_len (reach_needs gs) 0 (length plans) l l [] lt (omega arith)

  pub needs_own : NeedsOwn t plans (map (reach_needs gs) (range_with_len 0 (length plans)))
  needs_own = record {
    size = length-map-range_with_len (reach_needs gs) 0 (length plans);
    all = λ l p plan. subst (λ (ns : List ℕ). All (IsNeeded t ns) (keys_of p.links)) (sym (needs_at l (slice_get_within plans l p plan)))
        (λ i d lt. key_needed l p plan (get_or (keys_of p.links) i d) (Contains-get_or (keys_of p.links) i d lt));
    only = λ l p plan. subst (λ (ns : List ℕ). All (IsOwnPage t (keys_of p.links)) ns) (sym (needs_at l (slice_get_within plans l p plan)))
        (λ i d lt. page_own l p plan (get_or (reach_needs gs l) i d) (Contains-get_or (reach_needs gs l) i d lt));
  }

-- ---- as code makes them

pub stretches_more : (pages : List PageView) (n : ℕ) (ps : List PlanView) (i : ℕ) (p : PlanView) → slice_get ps i ≡ Some p
    → stretches_from pages n (take (i + 1) ps) ≡ stretches_from pages n (take i ps) ++ plan_stretches pages (n + i) p
stretches_more pages n [] i p at = absurd (none-some p at)
stretches_more pages n (q ∷ ps) zero p at =
    let same : q ≡ p = same_Some q p at in
    let place : n ≡ n + 0 = omega arith in
    append-nil (plan_stretches pages n q) ∙ (ap (plan_stretches pages n) same ∙ ap (λ (l : ℕ). plan_stretches pages l p) place)
stretches_more pages n (q ∷ ps) (suc i) p at =
    let more : suc i + 1 ≡ suc (i + 1) = omega arith in
    let place : n + 1 + i ≡ n + suc i = omega arith in
    let rest = stretches_more pages (n + 1) ps i p at in
    ap (λ (m : ℕ). stretches_from pages n (take m (q ∷ ps))) more
    ∙ (ap (λ (ss : List Stretch). plan_stretches pages n q ++ ss) rest
    ∙ (sym (append_assoc (plan_stretches pages n q) (stretches_from pages (n + 1) (take i ps)) (plan_stretches pages (n + 1 + i) p))
    ∙ ap (λ (l : ℕ). (plan_stretches pages n q ++ stretches_from pages (n + 1) (take i ps)) ++ plan_stretches pages l p) place))

-- some plans, all of whose pages a table has, and their stretches in order
module _ (t : TableView) (table : IsTable t) (plans : List PlanView) (ss sorted : List Stretch) (gs : List PageGroup)
    (keys : All (λ (p : PlanView). All (Contains (page_keys t.pages)) (keys_of p.links)) plans) (begin : All (λ (p : PlanView). All BeginsItem p.links) plans)
    (are : ss ≡ stretches_from t.pages 0 plans) (moved : IsPermutation ss sorted) (rising : AreRising sorted) (few : length sorted < 2 ^ 64)
    (grouped : AreStretches (length t.pages) (length plans) sorted → IsGrouped (length t.pages) (length plans) sorted gs) where
  all_plans : ArePlans t.pages plans 0 plans
  all_plans = record {
    at = λ k p at. let place : k ≡ 0 + k = omega arith in ap (slice_get plans) (sym place) ∙ at;
    begin = λ k p at. plan_at (λ (q : PlanView). All BeginsItem q.links) begin k p at;
    has = λ k p at. plan_at (λ (q : PlanView). All (Contains (page_keys t.pages)) (keys_of q.links)) keys k p at;
  }
    where
      plan_at : (P : PlanView → Type 0) → All P plans → (k : ℕ) (p : PlanView) → slice_get plans k ≡ Some p → P p
      plan_at P all k p at = subst P (get_or_from_slice_get plans k p p at) (all k p (slice_get_within plans k p at))

  own : All (IsOwn t.pages plans) sorted
  own = All-permutation (IsOwn t.pages plans) ss sorted moved
      (subst (All (IsOwn t.pages plans)) (sym are) (stretches_own t.pages table.rising plans 0 plans all_plans))

  there : (l : ℕ) (p : PlanView) → slice_get plans l ≡ Some p → (key : PageKey) → Contains (keys_of p.links) key → HasPage t.pages sorted l key
  there l p plan key in_it =
      let has =
      subst (λ (xs : List Stretch). HasPage t.pages xs (0 + l) key) (sym are)
      (pages_are_there t.pages table.rising plans 0 plans all_plans l p plan key in_it) in
      let place : 0 + l ≡ l = omega arith in
      (has.0, Contains-permutation ss sorted has.0 moved has.1, subst (λ (n : ℕ). HasSlot t.pages n key has.0) place has.2)

  is_grouped : IsGrouped (length t.pages) (length plans) sorted gs
  is_grouped = grouped (are_stretches t.pages plans sorted own rising)

  pub own_groups : AreGroups (length t.pages) (length plans) gs
  own_groups = grouped_are (length t.pages) (length plans) sorted gs few is_grouped

  pub groups_own : NeedsOwn t plans (map (reach_needs gs) (range_with_len 0 (length plans)))
  groups_own = needs_own t table plans sorted gs own there is_grouped.index
