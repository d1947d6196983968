-- Spans of pages: their granules, and each of their commands.
use Rattle.std.proofs.Common.{inl, inr, ◌≡◌, ℕ, zero, suc, ◌+◌, ◌-◌, ◌*◌, ◌%◌, ◌/◌, ◌<◌, ◌≤◌, ◌∙◌, sym, refl, ap, subst, arith, false, eqb, List, [], ◌∷◌, ◌++◌, get_or, length, take, true}
use Rattle.std.specs.Prelude.{Some, None, option_and_then}
use Rattle.std.proofs.lemmas.Bool.{cases_Bool}
use Rattle.std.proofs.lemmas.Bool.Decides.{nat_tests}
use Rattle.std.specs.List.{All, flat_map, slice_get, sum_by}
use Rattle.std.proofs.lemmas.List.{append-nil, length-append, take_all}
use Rattle.std.proofs.lemmas.List.Concat.{flat_map-append}
use Rattle.std.proofs.lemmas.List.Elements.{All-append}
use Rattle.rim_desc.specs.declared.realm.RealmParams.{RealmParams}
use Rattle.ipa_layout.specs.declared.rec.PlacedRec.{PlacedRec}
use Rattle.rim_launch.specs.declared.config.Config.{Config}
use Rattle.rmi_list.specs.declared.span.Span.{Span}
use Rattle.rmi_list.specs.declared.span.Span.TheVariants as span
use Rattle.rmi_list.specs.inside.Spans.{IsSpan, commands_in, entries_of, entries_of_span}
use Rattle.rim_desc.specs.declared.command.Command.TheVariants.{Delegate, RttCreate}
use Rattle.rmm_model.specs.Blocks.{granules}
use Rattle.list_model.specs.declared.content.PageContent.{PageContent}
use Rattle.list_model.specs.declared.content.PageContent.TheVariants.{Measured, Unmeasured, Unknown}
use Rattle.list_model.specs.Content.{is_measured}
use Rattle.list_model.specs.Entries.{Whole, delegated, granule, page_entry, page_of}
use Rattle.list_model.specs.inside.Acts.{entries_of_pages}
use Rattle.list_model.proofs.GranulesOfEntries.{count-append, count-page}
use Rattle.rmi_list.specs.declared.draft.Draft.{Draft}
use Rattle.rmi_list.specs.inside.Drafts.{Grows}
use Rattle.rmi_list.specs.inside.Plans.{AreStarts}
use Rattle.std.proofs.lemmas.List.Sums.{sum_by-cons, sum_by_more}
use Rattle.rmi_list.proofs.EntryByEntry.{pool_of}
use Rattle.rmi_list.proofs.StepsAreListed.{grows-then}

-- ---- how many they are

pub no-page : (pool n : ℕ) (known : PageContent) (item k count x : ℕ) → count ≡ 0 → entries_of_pages pool n known item k (granules count x) ≡ []
unfolding entries_of_pages granules
no-page pool n known item k count x none = rw none refl

pub granules-of_pages : (pool : ℕ) (known : PageContent) (item count n k x : ℕ) → delegated (entries_of_pages pool n known item k (granules count x)) ≡ count
unfolding entries_of_pages granules
granules-of_pages pool known item zero n k x = refl
granules-of_pages pool known item (suc count) n k x =
    ap (λ (m : ℕ). suc m) (count-page known (granule pool n) x item k (entries_of_pages pool (n + 1) known item (k + 1) (granules count (x + 4096)))
    ∙ granules-of_pages pool known item count (n + 1) (k + 1) (x + 4096))

pub commands-of_pages : (pool : ℕ) (known : PageContent) (item count n k x : ℕ) → length (entries_of_pages pool n known item k (granules count x)) ≡ 2 * count
unfolding entries_of_pages granules
commands-of_pages pool known item zero n k x = refl
commands-of_pages pool known item (suc count) n k x =
    let i : length (entries_of_pages pool (n + 1) known item (k + 1) (granules count (x + 4096))) ≡ 2 * count = commands-of_pages pool known item count (n + 1) (k + 1) (x + 4096) in
    omega arith

-- ---- which they are: two for each page

pub delegation-at : (pool : ℕ) (known : PageContent) (item j count n k x : ℕ) → j < count
    → slice_get (entries_of_pages pool n known item k (granules count x)) (2 * j) ≡ Some (Whole (Delegate (granule pool (n + j))))
unfolding entries_of_pages granules
delegation-at pool known item j zero n k x lt = absurd (omega arith)
delegation-at pool known item zero (suc count) n k x lt = let e : n + 0 ≡ n = omega arith in rw e refl
delegation-at pool known item (suc j) (suc count) n k x lt =
    let e : 2 * suc j ≡ suc (suc (2 * j)) = omega arith in
    let f : n + suc j ≡ n + 1 + j = omega arith in
    rw (e, f) (delegation-at pool known item j count (n + 1) (k + 1) (x + 4096) (omega arith))

pub page-at : (pool : ℕ) (known : PageContent) (item j count n k x : ℕ) → j < count
    → slice_get (entries_of_pages pool n known item k (granules count x)) (2 * j + 1) ≡ Some (page_entry known (granule pool (n + j)) (x + 4096 * j) item (k + j))
unfolding entries_of_pages granules
page-at pool known item j zero n k x lt = absurd (omega arith)
page-at pool known item zero (suc count) n k x lt =
    let e : n + 0 ≡ n = omega arith in
    let f : x + 4096 * 0 ≡ x = omega arith in
    let g : k + 0 ≡ k = omega arith in
    rw (e, f, g) refl
page-at pool known item (suc j) (suc count) n k x lt =
    let e : 2 * suc j + 1 ≡ suc (suc (2 * j + 1)) = omega arith in
    let f : n + suc j ≡ n + 1 + j = omega arith in
    let g : x + 4096 * suc j ≡ x + 4096 + 4096 * j = omega arith in
    let h : k + suc j ≡ k + 1 + j = omega arith in
    rw (e, f, g, h) (page-at pool known item j count (n + 1) (k + 1) (x + 4096) (omega arith))

pub even-at : (pool : ℕ) (known : PageContent) (item offset count n k x : ℕ) → offset % 2 ≡ 0 → offset < 2 * count
    → slice_get (entries_of_pages pool n known item k (granules count x)) offset ≡ Some (Whole (Delegate (granule pool (n + offset / 2))))
even-at pool known item offset count n k x even lt =
    let e : offset ≡ 2 * (offset / 2) = omega arith in
    ap (slice_get (entries_of_pages pool n known item k (granules count x))) e ∙ delegation-at pool known item (offset / 2) count n k x (omega arith)

pub odd-at : (pool : ℕ) (known : PageContent) (item offset count n k x : ℕ) → (offset % 2 ≡ 0 → ⊥) → offset < 2 * count
    → slice_get (entries_of_pages pool n known item k (granules count x)) offset ≡ Some (page_entry known (granule pool (n + offset / 2)) (x + 4096 * (offset / 2)) item (k + offset / 2))
odd-at pool known item offset count n k x odd lt =
    let e : offset ≡ 2 * (offset / 2) + 1 = omega arith in
    ap (slice_get (entries_of_pages pool n known item k (granules count x))) e ∙ page-at pool known item (offset / 2) count n k x (omega arith)

-- no command of a span that is not measured creates a measured page
pub none-measured : (known : PageContent) (pool item offset count n k x : ℕ) → is_measured known ≡ false → offset < 2 * count
    → None ≡ option_and_then page_of (slice_get (entries_of_pages pool n known item k (granules count x)) offset)
none-measured known pool item offset count n k x off lt =
    elim (cases_Bool (eqb (offset % 2) 0)) [
      | inl t ↦ (let even : offset % 2 ≡ 0 = grind (arith, nat_tests) in rw (even-at pool known item offset count n k x even lt) refl)
      | inr f ↦ (let odd : offset % 2 ≡ 0 → ⊥ = grind (arith, nat_tests) in
          rw (odd-at pool known item offset count n k x odd lt) (no-page known off))
    ]
  where
    no-page : (known : PageContent) → is_measured known ≡ false → None ≡ page_of (page_entry known (granule pool (n + offset / 2)) (x + 4096 * (offset / 2)) item (k + offset / 2))
    no-page Measured off = absurd (cc)
    no-page Unmeasured off = refl
    no-page Unknown off = refl

-- and the second command of a page that is measured does
pub one-measured : (known : PageContent) (g x item page : ℕ) → is_measured known ≡ true → page_of (page_entry known g x item page) ≡ Some (item, page)
one-measured Measured g x item page on = refl
one-measured Unmeasured g x item page on = absurd (cc)
one-measured Unknown g x item page on = absurd (cc)

-- ---- one span more

pub one-more : (params : RealmParams) (num_aux : ℕ) (recs : List PlacedRec) (ks now : List Span) (k : Span) → now ≡ ks ++ k ∷ []
    → entries_of params num_aux recs now ≡ entries_of params num_aux recs ks ++ entries_of_span params num_aux recs k
one-more params num_aux recs ks now k more =
    ap (flat_map (entries_of_span params num_aux recs)) more
    ∙ flat_map-append (entries_of_span params num_aux recs) ks (k ∷ [])
    ∙ ap (λ es. entries_of params num_aux recs ks ++ es) (append-nil (entries_of_span params num_aux recs k))

pub spans-more : (ks now : List Span) (k : Span) → now ≡ ks ++ k ∷ [] → IsSpan k → All IsSpan ks → All IsSpan now
spans-more ks now k more span all = rw more (All-append IsSpan ks (k ∷ []) all (λ i d lt. (let e : i ≡ 0 = omega arith in rw e span)))

-- ---- a table, as the code lists it

pub table-lists : (old mid new : Draft) (rtt base level : ℕ) → Grows old mid (Whole (Delegate (granule (pool_of old) old.taken)) ∷ [])
    → rtt ≡ old.taken → Grows mid new (Whole (RttCreate (granule (pool_of mid) rtt) base level) ∷ [])
    → Grows old new (Whole (Delegate (granule (pool_of old) old.taken)) ∷ Whole (RttCreate (granule (pool_of old) old.taken) base level) ∷ [])
table-lists old mid new rtt base level first at next =
    let pool : pool_of mid ≡ pool_of old = ap (λ (c : Config). c.pool_base) first.config in
    let second : Grows mid new (Whole (RttCreate (granule (pool_of old) rtt) base level) ∷ []) = subst (λ (p : ℕ). Grows mid new (Whole (RttCreate (granule p rtt) base level) ∷ [])) pool next in
    let third : Grows mid new (Whole (RttCreate (granule (pool_of old) old.taken) base level) ∷ []) = subst (λ (n : ℕ). Grows mid new (Whole (RttCreate (granule (pool_of old) n) base level) ∷ [])) at second in
    grows-then old mid new (Whole (Delegate (granule (pool_of old) old.taken)) ∷ []) (Whole (RttCreate (granule (pool_of old) old.taken) base level) ∷ []) first third

-- ---- a list of spans, by the numbers of its commands

pub length-span : (params : RealmParams) (num_aux : ℕ) (recs : List PlacedRec) (k : Span) → length (entries_of_span params num_aux recs k) ≡ commands_in k
length-span params num_aux recs (span.Delegate n) = refl
length-span params num_aux recs (span.RealmCreate n) = refl
length-span params num_aux recs (span.RttCreate n ipa level) = refl
length-span params num_aux recs (span.InitRipas base top) = refl
length-span params num_aux recs (span.Pages n ipa item known page count) = commands-of_pages params.rtt_base known item count n page ipa
length-span params num_aux recs (span.RecCreate n number) = refl
length-span params num_aux recs span.Activate = refl

pub length-of : (params : RealmParams) (num_aux : ℕ) (recs : List PlacedRec) (ks : List Span) → length (entries_of params num_aux recs ks) ≡ sum_by commands_in ks
length-of params num_aux recs [] = refl
length-of params num_aux recs (k ∷ ks) =
    let here : length (entries_of_span params num_aux recs k) ≡ commands_in k = length-span params num_aux recs k in
    let rest : length (entries_of params num_aux recs ks) ≡ sum_by commands_in ks = length-of params num_aux recs ks in
    let both : length (entries_of_span params num_aux recs k ++ entries_of params num_aux recs ks) ≡ length (entries_of_span params num_aux recs k) + length (entries_of params num_aux recs ks) =
    length-append (entries_of_span params num_aux recs k) (entries_of params num_aux recs ks) in
    let sum : sum_by commands_in (k ∷ ks) ≡ commands_in k + sum_by commands_in ks = sum_by-cons commands_in k ks in
    let parts : length (entries_of params num_aux recs (k ∷ ks)) ≡ length (entries_of_span params num_aux recs k ++ entries_of params num_aux recs ks) = refl in
    omega arith

few-span : (params : RealmParams) (num_aux : ℕ) (recs : List PlacedRec) (k : Span) → commands_in k ≤ 2 * delegated (entries_of_span params num_aux recs k) + 1
few-span params num_aux recs (span.Delegate n) = omega arith
few-span params num_aux recs (span.RealmCreate n) = omega arith
few-span params num_aux recs (span.RttCreate n ipa level) = omega arith
few-span params num_aux recs (span.InitRipas base top) = omega arith
few-span params num_aux recs (span.Pages n ipa item known page count) = omega (arith, granules-of_pages params.rtt_base known item count n page ipa)
few-span params num_aux recs (span.RecCreate n number) = omega arith
few-span params num_aux recs span.Activate = omega arith

-- the commands are at most two for each granule, and one for each span
pub few-of : (params : RealmParams) (num_aux : ℕ) (recs : List PlacedRec) (ks : List Span) → sum_by commands_in ks ≤ 2 * delegated (entries_of params num_aux recs ks) + length ks
few-of params num_aux recs [] = omega arith
few-of params num_aux recs (k ∷ ks) =
    let here : commands_in k ≤ 2 * delegated (entries_of_span params num_aux recs k) + 1 = few-span params num_aux recs k in
    let rest : sum_by commands_in ks ≤ 2 * delegated (entries_of params num_aux recs ks) + length ks = few-of params num_aux recs ks in
    let both : delegated (entries_of_span params num_aux recs k ++ entries_of params num_aux recs ks) ≡ delegated (entries_of_span params num_aux recs k) + delegated (entries_of params num_aux recs ks) =
    count-append (entries_of_span params num_aux recs k) (entries_of params num_aux recs ks) in
    let sum : sum_by commands_in (k ∷ ks) ≡ commands_in k + sum_by commands_in ks = sum_by-cons commands_in k ks in
    let parts : delegated (entries_of params num_aux recs (k ∷ ks)) ≡ delegated (entries_of_span params num_aux recs k ++ entries_of params num_aux recs ks) = refl in
    omega arith

get-front : {A : Type 0} (xs ys : List A) (j : ℕ) → j < length xs → slice_get (xs ++ ys) j ≡ slice_get xs j
get-front [] ys j lt = absurd (omega arith)
get-front (x ∷ xs) ys zero lt = refl
get-front (x ∷ xs) ys (suc j) lt = get-front xs ys j (omega arith)

get-back : {A : Type 0} (xs ys : List A) (j : ℕ) → slice_get (xs ++ ys) (length xs + j) ≡ slice_get ys j
get-back [] ys j = let e : 0 + j ≡ j = omega arith in rw e refl
get-back (x ∷ xs) ys j = let e : length (x ∷ xs) + j ≡ suc (length xs + j) = omega arith in rw e (get-back xs ys j)

-- a command of the list is one of its span
pub span-get : (params : RealmParams) (num_aux : ℕ) (recs : List PlacedRec) (ks : List Span) (i j : ℕ) (d : Span) → i < length ks → j < commands_in (get_or ks i d)
    → slice_get (entries_of params num_aux recs ks) (sum_by commands_in (take i ks) + j) ≡ slice_get (entries_of_span params num_aux recs (get_or ks i d)) j
span-get params num_aux recs [] i j d lt within = absurd (omega arith)
span-get params num_aux recs (k ∷ ks) zero j d lt within =
    let e : 0 + j ≡ j = omega arith in
    rw e (get-front (entries_of_span params num_aux recs k) (entries_of params num_aux recs ks) j (omega (arith, length-span params num_aux recs k)))
span-get params num_aux recs (k ∷ ks) (suc i) j d lt within =
    let sum : sum_by commands_in (take (suc i) (k ∷ ks)) ≡ commands_in k + sum_by commands_in (take i ks) = sum_by-cons commands_in k (take i ks) in
    let e : sum_by commands_in (take (suc i) (k ∷ ks)) + j ≡ length (entries_of_span params num_aux recs k) + (sum_by commands_in (take i ks) + j) = omega (arith, length-span params num_aux recs k) in
    ap (slice_get (entries_of params num_aux recs (k ∷ ks))) e
    ∙ (get-back (entries_of_span params num_aux recs k) (entries_of params num_aux recs ks) (sum_by commands_in (take i ks) + j)
    ∙ span-get params num_aux recs ks i j d (omega arith) within)

-- ---- a plan, by its starts

-- the last start is the number of all commands
pub last-start : (params : RealmParams) (num_aux : ℕ) (recs : List PlacedRec) (ks : List Span) (starts : List ℕ) → AreStarts ks starts
    → get_or starts (length ks) 0 ≡ length (entries_of params num_aux recs ks)
last-start params num_aux recs ks starts are =
    are.at (length ks) (omega arith) ∙ ap (sum_by commands_in) (take_all (length ks) ks (omega arith)) ∙ sym (length-of params num_aux recs ks)

-- a command is one of the span that a search has found
pub found-span : (params : RealmParams) (num_aux : ℕ) (recs : List PlacedRec) (ks : List Span) (starts : List ℕ) (at index : ℕ) (d : Span) → AreStarts ks starts
    → at + 1 < length starts → get_or starts at 0 ≤ index → index < get_or starts (at + 1) 0
    → (at < length ks) × (index - get_or starts at 0 < commands_in (get_or ks at d))
    × (slice_get (entries_of params num_aux recs ks) index ≡ slice_get (entries_of_span params num_aux recs (get_or ks at d)) (index - get_or starts at 0))
found-span params num_aux recs ks starts at index d are inside from below =
    let count : length starts ≡ length ks + 1 = are.count in
    let lt : at < length ks = omega arith in
    let here : get_or starts at 0 ≡ sum_by commands_in (take at ks) = are.at at (omega arith) in
    let next : get_or starts (at + 1) 0 ≡ sum_by commands_in (take (at + 1) ks) = are.at (at + 1) (omega arith) in
    let more : sum_by commands_in (take (at + 1) ks) ≡ sum_by commands_in (take at ks) + commands_in (get_or ks at d) = sum_by_more commands_in ks at d lt in
    let within : index - get_or starts at 0 < commands_in (get_or ks at d) = omega arith in
    let e : index ≡ sum_by commands_in (take at ks) + (index - get_or starts at 0) = omega arith in (
      lt,
      within,
      ap (slice_get (entries_of params num_aux recs ks)) e ∙ span-get params num_aux recs ks at (index - get_or starts at 0) d lt within,
    )

-- an element that is there, whatever is asked for past the end
pub any-default : {A : Type 0} (xs : List A) (i : ℕ) (d e : A) → i < length xs → get_or xs i d ≡ get_or xs i e
any-default [] i d e lt = absurd (omega arith)
any-default (x ∷ xs) zero d e lt = refl
any-default (x ∷ xs) (suc i) d e lt = any-default xs i d e (omega arith)

-- a number of a command is below the last start
pub below-last : (params : RealmParams) (num_aux : ℕ) (recs : List PlacedRec) (ks : List Span) (starts : List ℕ) (index : ℕ) → AreStarts ks starts
    → index < length (entries_of params num_aux recs ks) → index < get_or starts (length starts - 1) 0
below-last params num_aux recs ks starts index are lt =
    let count : length starts ≡ length ks + 1 = are.count in
    let e : length starts - 1 ≡ length ks = omega arith in
    rw (e, last-start params num_aux recs ks starts are) lt
