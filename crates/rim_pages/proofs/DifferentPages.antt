-- The measured pages of a release, each once, are found launch by launch, in the order of their keys.
use Rattle.std.proofs.Common.{◌≡◌, ℕ, ◌+◌, ◌^◌, ◌<◌, ◌≤◌, inl, inr, ◌∙◌, Bool, true, false, List, [], ◌∷◌, ◌++◌, length, map, get_or, take, zero, suc}
use Rattle.std.proofs.Common.{refl, ap, sym, subst, arith, append_assoc, sum_by}
use Rattle.std.specs.Prelude.{Option, Some, None, Result, Ok, Err, if◌then◌else◌}
use Rattle.std.proofs.Common.{nat_lt, length-append, ◌-◌}
use Rattle.std.proofs.lemmas.Bool.{cases_lt}
use Rattle.std.proofs.lemmas.List.{length-map}
use Rattle.std.proofs.lemmas.List.FromFn.{length-range_with_len}
use Rattle.std.proofs.lemmas.List.Elements.{All-contains, All-contains_itself, All-from_recursion, recursion_from_All}
use Rattle.page_jobs.proofs.RisingKeys.{rising_keys-same}
use Rattle.rim_launch.specs.LaunchData.{has_files}
use Rattle.ipa_layout.specs.Laws.{page_total}
use Rattle.ipa_layout.proofs.PlacedLaunchLaws.{few-pages, lead-low}
use Rattle.rim_pages.specs.inside.Sources.{IsUsable}
use Rattle.rim_pages.specs.declared.fault.StartFault.TheVariants.{TooManyPages}
use Rattle.rim_accepted.specs.Outcomes.{AreOutcomes, IsOutcome}
use Rattle.rim_accepted.specs.declared.accepted.AcceptedLaunch.{AcceptedLaunch}
use Rattle.rim_accepted.proofs.AcceptedLaunches.{accepted-is}
use Rattle.rim_accepted.proofs.OutcomesInTurn.{own-place, own-refusal}
use Rattle.rim_accepted.proofs.PagesOfItems.{each-append, item-pages}
use Rattle.std.specs.List.{All, AllByRecursion, flat_map, range_with_len, slice_get}
use Rattle.std.proofs.lemmas.Grind.{flat_map-append}
use Rattle.std.proofs.lemmas.List.{append-nil, map-append}
use Rattle.std.proofs.lemmas.List.Sums.{sum_by-cons}
use Rattle.std.proofs.Math.Seq.{take-suc}
use Rattle.rim_desc.specs.declared.measurement.Algo.{Algo}
use Rattle.rim_desc.specs.declared.source.Source.{Source}
use Rattle.page_jobs.specs.Key.{rising_keys}
use Rattle.page_jobs.specs.Page.{PageView, page_named}
use Rattle.page_jobs.specs.Ranges.{keys_before, range_keys, with_number}
use Rattle.page_jobs.specs.declared.page.PageKey.{PageKey}
use Rattle.page_jobs.specs.declared.range.KeyRange.{KeyRange}
use Rattle.rim_launch.specs.LaunchData.{LaunchData}
use Rattle.rim_launch.specs.declared.step.Step.{Step}
use Rattle.rim_launch.specs.declared.step.Step.TheVariants as step
use Rattle.ipa_layout.specs.Layout.{IsPlaced, PlacedData}
use Rattle.ipa_layout.specs.declared.placed.PlacedItem.{PlacedItem}
use Rattle.rim_manifest.specs.Launches.{AreNumbered, NamedData, ReleaseData}
use Rattle.launch_plan.specs.Keys.{item_keys, key_at, measured_keys, source_keys, step_keys}
use Rattle.rim_accepted.specs.Accepted.{accepted_of}
use Rattle.rim_pages.specs.Pages.{keys_at, launch_keys, page_keys, pages_of, release_pages}
use Rattle.rim_pages.specs.inside.Ends.{item_ends, launch_ends, outcome_ends, step_ends, source_ends}
use Rattle.rim_accepted.specs.declared.audit_fault.AuditFault.{AuditFault}
use Rattle.rim_accepted.specs.declared.refused.RefusedLaunch.{RefusedLaunch}

-- ---- lists

range-next : (a n : ℕ) → range_with_len a (suc n) ≡ range_with_len a n ++ (a + n) ∷ []
range-next a zero = let same : a ≡ a + 0 = omega arith in ap (λ (x : ℕ). x ∷ []) same
range-next a (suc n) =
    let same : a + 1 + n ≡ a + suc n = omega arith in
    ap (λ (xs : List ℕ). a ∷ xs) (range-next (a + 1) n ∙ ap (λ (x : ℕ). range_with_len (a + 1) n ++ x ∷ []) same)

-- ---- the pages of a range

pub page-next : {P : Type 0} (view : P → PageView) (f : PageKey → PageView) (first : PageKey) (n : ℕ) (old now new : List P) (p : P)
    → map view now ≡ map view old ++ map f (map (with_number first) (range_with_len first.number n))
    → new ≡ now ++ p ∷ [] → view p ≡ f (with_number first (first.number + n))
    → map view new ≡ map view old ++ map f (map (with_number first) (range_with_len first.number (n + 1)))
page-next view f first n old now new p so_far added is =
    let next : suc n ≡ n + 1 = omega arith in
    ap (map view) added ∙ map-append view now (p ∷ [])
    ∙ ap (λ (ps : List PageView). ps ++ view p ∷ []) so_far
    ∙ append_assoc (map view old) (map f (map (with_number first) (range_with_len first.number n))) (view p ∷ [])
    ∙ ap (λ (x : PageView). map view old ++ (map f (map (with_number first) (range_with_len first.number n)) ++ x ∷ [])) is
    ∙ ap (λ (ps : List PageView). map view old ++ ps)
    (sym (map-append f (map (with_number first) (range_with_len first.number n)) (with_number first (first.number + n) ∷ [])))
    ∙ ap (λ (ks : List PageKey). map view old ++ map f ks) (sym (map-append (with_number first) (range_with_len first.number n) ((first.number + n) ∷ [])))
    ∙ ap (λ (ns : List ℕ). map view old ++ map f (map (with_number first) ns)) (sym (range-next first.number n))
    ∙ ap (λ (m : ℕ). map view old ++ map f (map (with_number first) (range_with_len first.number m))) next

-- pages of one source need its bytes alone
named-source : (items : Source → List ℕ) (bytes : List ℕ) (first : PageKey) (ns : List ℕ) → bytes ≡ items first.source
    → map (page_named (λ source. bytes)) (map (with_number first) ns) ≡ map (page_named items) (map (with_number first) ns)
named-source items bytes first [] same = refl
named-source items bytes first (n ∷ ns) same =
    ap (λ (b : List ℕ). page_named (λ source. b) (with_number first n) ∷ map (page_named (λ source. bytes)) (map (with_number first) ns)) same
    ∙ ap (λ (ps : List PageView). page_named items (with_number first n) ∷ ps) (named-source items bytes first ns same)

pub pages-next : {P : Type 0} (view : P → PageView) (items : Source → List ℕ) (ranges : List KeyRange) (i : ℕ) (d : KeyRange) (bytes : List ℕ)
    (now new : List P)
    → i < length ranges → bytes ≡ items (get_or ranges i d).first.source
    → map view now ≡ map (page_named items) (flat_map range_keys (take i ranges))
    → map view new ≡ map view now ++ map (page_named (λ source. bytes)) (range_keys (get_or ranges i d))
    → map view new ≡ map (page_named items) (flat_map range_keys (take (i + 1) ranges))
pages-next view items ranges i d bytes now new inside same so_far added =
    let next : suc i ≡ i + 1 = omega arith in
    let r : KeyRange = get_or ranges i d in
    added
    ∙ ap (λ (ps : List PageView). ps ++ map (page_named (λ source. bytes)) (range_keys r)) so_far
    ∙ ap (λ (ps : List PageView). map (page_named items) (flat_map range_keys (take i ranges)) ++ ps)
    (named-source items bytes r.first (range_with_len r.first.number r.count) same)
    ∙ sym (map-append (page_named items) (flat_map range_keys (take i ranges)) (range_keys r))
    ∙ ap (λ (ks : List PageKey). map (page_named items) (flat_map range_keys (take i ranges) ++ ks)) (sym (append-nil (range_keys r)))
    ∙ ap (map (page_named items)) (sym (flat_map-append range_keys (take i ranges) (r ∷ [])))
    ∙ ap (λ (rs : List KeyRange). map (page_named items) (flat_map range_keys rs)) (sym (take-suc ranges i d inside) ∙ ap (λ (n : ℕ). take n ranges) next)

-- ---- the keys of all launches

item-keys-before : (algo : Algo) (o : Option PlacedItem) → flat_map keys_before (item_ends algo o) ≡ item_keys algo o
item-keys-before algo None = refl
item-keys-before algo (Some item) = by_source item.source
  where
    at : (source : Source) (b : Bool) → flat_map keys_before (if b then key_at algo source item item.pages ∷ [] else [])
        ≡ (if b then map (key_at algo source item) (range_with_len 0 item.pages) else [])
    at source true = append-nil (map (key_at algo source item) (range_with_len 0 item.pages))
    at source false = refl

    by_source : (o : Option Source) → flat_map keys_before (source_ends algo item o) ≡ source_keys algo item o
    by_source None = refl
    by_source (Some source) = at source item.measured

step-keys-before : (l : LaunchData) (p : PlacedData) (s : Step) → flat_map keys_before (step_ends l p s) ≡ step_keys l p s
step-keys-before l p (step.Ram n) = refl
step-keys-before l p (step.Item n) = item-keys-before l.config.algo (slice_get p.items n)
step-keys-before l p (step.Rec n) = refl

steps-keys-before : (l : LaunchData) (p : PlacedData) (ss : List Step) → flat_map keys_before (flat_map (step_ends l p) ss) ≡ flat_map (step_keys l p) ss
steps-keys-before l p [] = refl
steps-keys-before l p (s ∷ ss) =
    flat_map-append keys_before (step_ends l p s) (flat_map (step_ends l p) ss)
    ∙ ap (λ (ks : List PageKey). ks ++ flat_map keys_before (flat_map (step_ends l p) ss)) (step-keys-before l p s)
    ∙ ap (λ (ks : List PageKey). step_keys l p s ++ ks) (steps-keys-before l p ss)

-- those of a launch
launch-keys-before : (a : AcceptedLaunch) → flat_map keys_before (launch_ends a) ≡ measured_keys a.named.now.launch a.placed
launch-keys-before a = steps-keys-before a.named.now.launch a.placed a.named.now.launch.steps

pub added-keys : (a : AcceptedLaunch) (old new : List PageKey) → new ≡ old ++ launch_ends a
    → flat_map keys_before new ≡ flat_map keys_before old ++ measured_keys a.named.now.launch a.placed
added-keys a old new is =
    ap (flat_map keys_before) is ∙ flat_map-append keys_before old (launch_ends a)
    ∙ ap (λ (ks : List PageKey). flat_map keys_before old ++ ks) (launch-keys-before a)

outcome-keys-before : (files : List (List ℕ)) (l : NamedData) (r : Result AcceptedLaunch RefusedLaunch) → IsOutcome files l r
    → flat_map keys_before (outcome_ends r) ≡ launch_keys files l
outcome-keys-before files l (Ok a) is =
    launch-keys-before a
    ∙ ap (λ (x : NamedData). measured_keys x.launch a.placed) is.0
    ∙ sym (ap (keys_at l.launch) (own-place files l a is))
outcome-keys-before files l (Err refused) is = sym (ap (keys_at l.launch) (own-refusal files l refused is))

keys-of-ends : (files : List (List ℕ)) (ls : List NamedData) (rs : List (Result AcceptedLaunch RefusedLaunch)) → AreOutcomes files ls rs
    → flat_map keys_before (flat_map outcome_ends rs) ≡ flat_map (launch_keys files) ls
keys-of-ends files [] [] are = refl
keys-of-ends files [] (r ∷ rs) are = absurd are
keys-of-ends files (l ∷ ls) [] are = absurd are
keys-of-ends files (l ∷ ls) (r ∷ rs) are =
    flat_map-append keys_before (outcome_ends r) (flat_map outcome_ends rs)
    ∙ ap (λ (ks : List PageKey). ks ++ flat_map keys_before (flat_map outcome_ends rs)) (outcome-keys-before files l r are.0)
    ∙ ap (λ (ks : List PageKey). launch_keys files l ++ ks) (keys-of-ends files ls rs are.1)

pub keys-found : (files : List (List ℕ)) (ls : List NamedData) (rs : List (Result AcceptedLaunch RefusedLaunch)) (ends : List PageKey)
    (ranges seen : List KeyRange)
    → AreOutcomes files ls rs → ends ≡ flat_map outcome_ends rs → flat_map range_keys ranges ≡ rising_keys (flat_map keys_before ends)
    → seen ≡ ranges → flat_map range_keys seen ≡ page_keys files ls
unfolding page_keys
keys-found files ls rs ends ranges seen are is found same =
    ap (flat_map range_keys) same ∙ found
    ∙ ap (λ (es : List PageKey). rising_keys (flat_map keys_before es)) is
    ∙ ap rising_keys (keys-of-ends files ls rs are)

-- ---- what a page's key may be

each-flat_map : {X : Type 0} (P : PageKey → Type 0) (f : X → List PageKey) (xs : List X) → ((x : X) → AllByRecursion P (f x)) → AllByRecursion P (flat_map f xs)
each-flat_map P f [] each = tt
each-flat_map P f (x ∷ xs) each = each-append P (f x) (flat_map f xs) (each x) (each-flat_map P f xs each)

each-range : (P : PageKey → Type 0) (f : ℕ → PageKey) (a n : ℕ) → ((k : ℕ) → k < a + n → P (f k)) → AllByRecursion P (map f (range_with_len a n))
each-range P f a zero each = tt
each-range P f a (suc n) each = (each a (omega arith), each-range P f (a + 1) n (λ k low. each k (omega (arith, low))))

-- each key of a launch's measured pages is that of a page of one of its items
pub each-measured : (P : PageKey → Type 0) (l : LaunchData) (p : PlacedData)
    → ((number k : ℕ) (item : PlacedItem) (source : Source) → slice_get p.items number ≡ Some item → item.source ≡ Some source → k < item.pages
    → P (key_at l.config.algo source item k))
    → AllByRecursion P (measured_keys l p)
each-measured P l p each = each-flat_map P (step_keys l p) l.steps by_step
  where
    of_item : (number : ℕ) (o : Option PlacedItem) → slice_get p.items number ≡ o → AllByRecursion P (item_keys l.config.algo o)
    of_item number None at = tt
    of_item number (Some item) at = by_source item.source refl
      where
        measured : (source : Source) → item.source ≡ Some source → (b : Bool)
            → AllByRecursion P (if b then map (key_at l.config.algo source item) (range_with_len 0 item.pages) else [])
        measured source from true =
            each-range P (key_at l.config.algo source item) 0 item.pages (λ k low. each number k item source at from (omega (arith, low)))
        measured source from false = tt

        by_source : (o : Option Source) → item.source ≡ o → AllByRecursion P (source_keys l.config.algo item o)
        by_source None from = tt
        by_source (Some source) from = measured source from item.measured

    by_step : (s : Step) → AllByRecursion P (step_keys l p s)
    by_step (step.Ram n) = tt
    by_step (step.Item n) = of_item n (slice_get p.items n) refl
    by_step (step.Rec n) = tt

-- of all launches, where it holds of each by its number
pub each-launch : (P : PageKey → Type 0) (files : List (List ℕ)) (ls : List NamedData)
    → ((i : ℕ) (l : NamedData) → slice_get ls i ≡ Some l → AllByRecursion P (launch_keys files l)) → AllByRecursion P (flat_map (launch_keys files) ls)
each-launch P files [] each = tt
each-launch P files (l ∷ ls) each =
    each-append P (launch_keys files l) (flat_map (launch_keys files) ls) (each 0 l refl) (each-launch P files ls (λ i m at. each (suc i) m at))

-- a key that a page of an item may have
abbrev pub IsUsableKey : PageKey → Type 0
IsUsableKey key = (key.lead < 4096) × (key.number < 2 ^ 52)

launch-usable : (files : List (List ℕ)) (l : NamedData) → has_files l.launch (length files) ≡ true → AllByRecursion IsUsableKey (launch_keys files l)
launch-usable files l has = by_place (accepted_of l.launch files) refl
  where
    by_place : (place : Result PlacedData AuditFault) → accepted_of l.launch files ≡ place → AllByRecursion IsUsableKey (keys_at l.launch place)
    by_place (Err fault) is = tt
    by_place (Ok p) is =
        let accepted = accepted-is l.launch files p is in
        let is_placed : IsPlaced l.launch files p = record { there = has; placed = accepted.placed } in
        each-measured IsUsableKey l.launch p (λ number k item source at from low. (
          lead-low l.launch files p number item is_placed at,
          (let most : item.pages ≤ page_total p = item-pages p.items number item at in
              let few : page_total p ≤ 1048576 = few-pages l.launch files p is_placed in
              omega (arith, low, most, few)),
        ))

-- each page of a release has such a key
pub page_keys-usable : (files : List (List ℕ)) (ls : List NamedData)
    → ((i : ℕ) (l : NamedData) → slice_get ls i ≡ Some l → has_files l.launch (length files) ≡ true) → All IsUsableKey (page_keys files ls)
unfolding page_keys
page_keys-usable files ls has = λ k d low.
    let all : List PageKey = flat_map (launch_keys files) ls in
    let each : All IsUsableKey all = All-from_recursion IsUsableKey all (each-launch IsUsableKey files ls (λ i l at. launch-usable files l (has i l at))) in
    let key : PageKey = get_or (rising_keys all) k d in
    All-contains IsUsableKey all key each ((rising_keys-same all key).0 (All-contains_itself (rising_keys all) k d low))

-- ranges of such keys
range-keys : (P : PageKey → Type 0) (f : ℕ → PageKey) (a n k : ℕ) → AllByRecursion P (map f (range_with_len a n)) → a ≤ k → k < a + n → P (f k)
range-keys P f a zero k each low high = absurd (omega (arith, low, high))
range-keys P f a (suc n) k each low high = elim (cases_lt a k) [
  | inl later ↦ range-keys P f (a + 1) n k each.1 (omega (arith, later)) (omega (arith, high))
  | inr here ↦ (let same : a ≡ k = omega (arith, here, low) in subst (λ (x : ℕ). P (f x)) same each.0)
]

each-left : (P : PageKey → Type 0) (xs ys : List PageKey) → AllByRecursion P (xs ++ ys) → AllByRecursion P xs
each-left P [] ys each = tt
each-left P (x ∷ xs) ys each = (each.0, each-left P xs ys each.1)

each-right : (P : PageKey → Type 0) (xs ys : List PageKey) → AllByRecursion P (xs ++ ys) → AllByRecursion P ys
each-right P [] ys each = each
each-right P (x ∷ xs) ys each = each-right P xs ys each.1

ranges-by-keys : (ranges : List KeyRange) → AllByRecursion IsUsableKey (flat_map range_keys ranges) → AllByRecursion IsUsable ranges
ranges-by-keys [] each = tt
ranges-by-keys (r ∷ ranges) each = (
  (λ some.
      let keys = each-left IsUsableKey (range_keys r) (flat_map range_keys ranges) each in
      let first = range-keys IsUsableKey (with_number r.first) r.first.number r.count r.first.number keys (omega arith) (omega (arith, some)) in
      let last =
      range-keys IsUsableKey (with_number r.first) r.first.number r.count (r.first.number + r.count - 1) keys (omega (arith, some)) (omega (arith, some)) in
      (first.0, omega (arith, some, last.1))),
  ranges-by-keys ranges (each-right IsUsableKey (range_keys r) (flat_map range_keys ranges) each),
)

pub ranges-usable : (files : List (List ℕ)) (ls : List NamedData) (ranges : List KeyRange)
    → ((i : ℕ) (l : NamedData) → slice_get ls i ≡ Some l → has_files l.launch (length files) ≡ true)
    → flat_map range_keys ranges ≡ page_keys files ls → All IsUsable ranges
ranges-usable files ls ranges has same =
    All-from_recursion IsUsable ranges (ranges-by-keys ranges (recursion_from_All IsUsableKey (flat_map range_keys ranges)
    (subst (All IsUsableKey) (sym same) (page_keys-usable files ls has))))

-- how many they are
ranges-length : (ranges : List KeyRange) → length (flat_map range_keys ranges) ≡ sum_by (λ r. r.count) ranges
ranges-length [] = refl
ranges-length (r ∷ ranges) =
    length-append (range_keys r) (flat_map range_keys ranges)
    ∙ ap (λ (n : ℕ). n + length (flat_map range_keys ranges))
    (length-map (range_with_len r.first.number r.count) (with_number r.first) ∙ length-range_with_len r.first.number r.count)
    ∙ ap (λ (n : ℕ). r.count + n) (ranges-length ranges)
    ∙ sym (sum_by-cons (λ (x : KeyRange). x.count) r ranges)

pub keys-counted : (keys : List PageKey) (ranges : List KeyRange) → flat_map range_keys ranges ≡ keys → length keys ≡ sum_by (λ r. r.count) ranges
keys-counted keys ranges same = ap length (sym same) ∙ ranges-length ranges

pub found-by-count : (files : List (List ℕ)) (ls : List NamedData) (ranges : List KeyRange) (count : ℕ) (over : Bool)
    → flat_map range_keys ranges ≡ page_keys files ls → count ≡ sum_by (λ r. r.count) ranges → nat_lt 1048576 count ≡ over
    → pages_of files ls ≡ (if over then Err TooManyPages else Ok (release_pages files ls))
found-by-count files ls ranges count over same counted is =
    ap (λ (n : ℕ). if nat_lt 1048576 n then Err TooManyPages else Ok (release_pages files ls)) (keys-counted (page_keys files ls) ranges same ∙ sym counted)
    ∙ ap (λ (b : Bool). if b then Err TooManyPages else Ok (release_pages files ls)) is

-- a release whose files were all read
pub files-there : (r : ReleaseData) (files : List (List ℕ)) → AreNumbered r → length files ≡ length r.paths
    → (i : ℕ) (l : NamedData) → slice_get r.launches i ≡ Some l → has_files l.launch (length files) ≡ true
files-there r files numbered same i l at = ap (has_files l.launch) same ∙ (numbered i l at).1
