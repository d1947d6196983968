-- The chain of each launch of a release is what a monitor holds after the launch's list of commands.
use Rattle.std.proofs.Common.{◌≡◌, ℕ, ◌<◌, ◌∙◌, Bool, true, false, List, [], ◌∷◌, length, map, get_or, zero, suc, refl, ap, ap₂, sym, subst, arith, nat_lt}
use Rattle.std.specs.Prelude.{Option, Some, None, Result, Ok, Err, is_some, unwrap_or, ◌==◌, if◌then◌else◌}
use Rattle.std.specs.List.{All, AllByRecursion, Contains, filter_map, flat_map, slice_get}
use Rattle.std.specs.Option.{option_and_then}
use Rattle.std.specs.Ordering.{is_eq}
use Rattle.std.proofs.lemmas.Bool.{and_parts}
use Rattle.std.proofs.lemmas.List.{length-map}
use Rattle.std.proofs.lemmas.Bool.Decides.{nat_tests}
use Rattle.std.proofs.lemmas.List.Quantifiers.{position-Some}
use Rattle.std.proofs.lemmas.List.Elements.{All-contains_itself, All-from_recursion, recursion_from_All}
use Rattle.std.proofs.lemmas.Option.{slice_get-get_or, slice_get_within}
use Rattle.rim_desc.specs.declared.measurement.Measurement.{Measurement}
use Rattle.rim_desc.specs.declared.source.Source.{Source}
use Rattle.rim_desc.specs.declared.source.Source.TheVariants.{File, Edited}
use Rattle.rmm_model.specs.Run.{run}
use Rattle.rmm_model.specs.State.{empty_state}
use Rattle.list_model.specs.Entries.{commands_of}
use Rattle.rim_launch.specs.LaunchData.{LaunchData, has_files}
use Rattle.rim_launch.specs.declared.item.Item.{Item}
use Rattle.ipa_layout.specs.Laws.{IsSourceOf}
use Rattle.ipa_layout.specs.Layout.{IsPlaced, PlacedData, bytes_of_source}
use Rattle.ipa_layout.specs.declared.placed.PlacedItem.{PlacedItem}
use Rattle.ipa_layout.proofs.PlacedLaunchLaws.{as-many-items, same-number, source-is}
use Rattle.page_jobs.specs.Key.{IsRising, key_cmp}
use Rattle.page_jobs.specs.Page.{PageView, page_named}
use Rattle.page_jobs.specs.Table as table
use Rattle.page_jobs.specs.Table.{IsTable, TableView, digest_at, digest_in, slot_of}
use Rattle.page_jobs.specs.declared.page.PageKey.{PageKey}
use Rattle.page_jobs.proofs.FreshPagesOfItems.{append-left, append-right}
use Rattle.page_jobs.proofs.SearchByKey.{slot-key}
use Rattle.page_jobs.proofs.SlotOfNextPage.{slots-there}
use Rattle.page_jobs.proofs.RisingKeys.{Has, contains-has, has-contains, rising_keys-rise, rising_keys-same}
use Rattle.rim_manifest.specs.Launches.{AreNumbered, NamedData, ReleaseData}
use Rattle.rmi_list.specs.Measured.{page_contents}
use Rattle.launch_plan.specs.Links.{PlanView, chain_of, keys_of}
use Rattle.rim_chain.specs.OwnDigests.{HasOwnPage, own_digest}
use Rattle.launch_plan.specs.Keys.{measured_keys}
use Rattle.launch_plan.specs.Reading.{IsReadOf}
use Rattle.launch_plan.specs.Rows.{IsFull, IsRowOf, has_all, value_in}
use Rattle.rim_chain.proofs.ChainsOfOwnPages.{chain-held, row-own}
use Rattle.rim_accepted.specs.Accepted.{accepted_of, commands_for, rim_for}
use Rattle.rim_pages.specs.Pages.{keys_at, launch_keys, page_keys, pages_of, release_pages, source_bytes}
use Rattle.rim_accepted.specs.Lines.{lines_of, outcomes_for, seen}
use Rattle.rim_report.specs.Report.{measured_of, report_of, report_with}
use Rattle.rim_accepted.specs.Accepted.{places_of}
use Rattle.rim_report.specs.Plans.{ArePlans, BeginsWith}
use Rattle.rim_accepted.specs.Outcomes.{AreOutcomes, IsLaidOut, OutcomesView}
use Rattle.rim_accepted.specs.declared.accepted.AcceptedLaunch.{AcceptedLaunch}
use Rattle.rim_report.specs.inside.Unknown.{unknown_outcome, with_rims}
use Rattle.rim_accepted.specs.Lines.{lines_with}
use Rattle.rim_accepted.specs.declared.audit_fault.AuditFault.{AuditFault}
use Rattle.rim_accepted.specs.declared.refused.RefusedLaunch.{RefusedLaunch}
use Rattle.rim_pages.specs.declared.fault.StartFault.TheVariants.{TooManyPages}
use Rattle.rim_accepted.proofs.AcceptedLaunches.{IsAccepted, accepted-is}
use Rattle.rim_accepted.proofs.OutcomesInTurn.{own-place, own-refusal}
use Rattle.rim_accepted.proofs.LinesOfLaunches.{own-lines}
use Rattle.rim_pages.proofs.DifferentPages.{each-measured, files-there}

-- ---- the pages of a table

named-keys : (items : Source → List ℕ) (keys : List PageKey) → table.page_keys_of (map (page_named items) keys) ≡ keys
named-keys items [] = refl
named-keys items (key ∷ keys) = ap (λ (ks : List PageKey). key ∷ ks) (named-keys items keys)

named-at : (items : Source → List ℕ) (keys : List PageKey) (j : ℕ) (q : PageView) → slice_get (map (page_named items) keys) j ≡ Some q
    → q ≡ page_named items q.key
named-at items [] j q at = absurd (cc)
named-at items (key ∷ keys) zero q at = let same : page_named items key ≡ q = cc in subst (λ (x : PageView). x ≡ page_named items x.key) same refl
named-at items (key ∷ keys) (suc j) q at = named-at items keys j q at

-- a row of the digests of a table that has them all
pub row-of-all : (t : TableView) (keys : List PageKey) → has_all t keys ≡ true → IsRowOf t keys (filter_map (digest_at t) keys)
row-of-all t [] all = refl
row-of-all t (key ∷ keys) all = at (digest_at t key) refl (row-of-all t keys (and_parts _ _ all).1)
  where
    at : (o : Option Measurement) → digest_at t key ≡ o → IsRowOf t keys (filter_map (digest_at t) keys)
        → IsRowOf t (key ∷ keys) (filter_map (digest_at t) (key ∷ keys))
    at None is rest =
        absurd (let no_digest : is_some (digest_at t key) ≡ false = ap is_some is in let here : is_some (digest_at t key) ≡ true = (and_parts _ _ all).0 in cc)
    at (Some d) is rest = rw is (ap (λ (ds : List (Option Measurement)). Some d ∷ ds) rest)

-- ---- the keys of a launch are keys of the release

launch-has : (files : List (List ℕ)) (ls : List NamedData) (i : ℕ) (l : NamedData) (key : PageKey) → slice_get ls i ≡ Some l
    → Has (launch_keys files l) key → Has (flat_map (launch_keys files) ls) key
launch-has files [] i l key at there = absurd (cc)
launch-has files (first ∷ ls) zero l key at there =
    let same : first ≡ l = cc in
    append-left (launch_keys files first) (flat_map (launch_keys files) ls) key (subst (λ (x : NamedData). Has (launch_keys files x) key) (sym same) there)
launch-has files (first ∷ ls) (suc i) l key at there =
    append-right (launch_keys files first) (flat_map (launch_keys files) ls) key (launch-has files ls i l key at there)

pub place-at : (files : List (List ℕ)) (ls : List NamedData) (i : ℕ) (l : NamedData) → slice_get ls i ≡ Some l
    → slice_get (places_of files ls) i ≡ Some (accepted_of l.launch files)
place-at files [] i l at = absurd (cc)
place-at files (first ∷ ls) zero l at = let same : first ≡ l = cc in ap (λ (x : NamedData). Some (accepted_of x.launch files)) same
place-at files (first ∷ ls) (suc i) l at = place-at files ls i l at

-- the measurement of a launch that is accepted is what a monitor holds
accepted-rim : (l : LaunchData) (files : List (List ℕ)) (p : PlacedData) (v : PlanView) → has_files l (length files) ≡ true → accepted_of l files ≡ Ok p
    → IsReadOf l p v
    → rim_for l files ≡ Ok (chain_of v (map (own_digest files p) (keys_of v.links)))
unfolding commands_for rim_for
accepted-rim l files p v has accepted read =
    let is : IsAccepted l files p = accepted-is l files p accepted in
    let held : (run (empty_state l.config.num_aux l.config.rec_rule) (commands_of (page_contents l files p) is.entries)).rim ≡ Some
    (chain_of v (map (own_digest files p) (keys_of v.links)))
    = chain-held l files p is.entries v (record { there = has; placed = is.placed }) is.listed read in
    rw (is.placed, is.listed) (ap (λ (o : Option (List ℕ)). Ok (unwrap_or o [])) held)

nat-same : (n : ℕ) → (n == n) ≡ true
nat-same n = grind (arith, nat_tests)

-- a slot that was found is one of the table's
pub slot-low : (pages : List PageView) (key : PageKey) (j : ℕ) (d : PageView) → slot_of pages key ≡ Some j → j < length pages
slot-low pages key j d at = (position-Some (λ q. is_eq (key_cmp q.key key)) pages j d at).0

-- ---- the plans of a release

-- launches are among others
unfoldable pub Later : List NamedData → List NamedData → Type 0
Later all ls = (i : ℕ) (l : NamedData) → slice_get ls i ≡ Some l → (k : ℕ) × (slice_get all k ≡ Some l)

pub later-next : (all : List NamedData) (l : NamedData) (ls : List NamedData) → Later all (l ∷ ls) → Later all ls
unfolding Later
later-next all l ls later = λ i m at. later (suc i) m at

-- what holds of the plan of each launch that is accepted
OfEach : List (List ℕ) → List NamedData → (PlanView → Type 0) → Type 0
OfEach files all P =
    (i : ℕ) (l : NamedData) (p : PlacedData) (v : PlanView) → slice_get all i ≡ Some l → accepted_of l.launch files ≡ Ok p → IsReadOf l.launch p v → P v

each-plan : (files : List (List ℕ)) (all : List NamedData) (P : PlanView → Type 0) → OfEach files all P
    → (ls : List NamedData) (plans : List PlanView) → Later all ls → ArePlans files ls plans → AllByRecursion P plans
unfolding Later OfEach
each-plan files all P each [] plans later are = subst (AllByRecursion P) (sym are) tt
each-plan files all P each (l ∷ ls) plans later are =
    by_place (accepted_of l.launch files) refl plans are (λ vs others. each-plan files all P each ls vs (later-next all l ls later) others)
  where
    by_place : (place : Result PlacedData AuditFault) → accepted_of l.launch files ≡ place → (vs : List PlanView)
        → BeginsWith l.launch place (ArePlans files ls) vs
        → ((us : List PlanView) → ArePlans files ls us → AllByRecursion P us) → AllByRecursion P vs
    by_place (Err fault) is vs begins rest = rest vs begins
    by_place (Ok p) is [] begins rest = absurd begins
    by_place (Ok p) is (v ∷ vs) begins rest = (let found = later 0 l refl in each found.0 l p v found.1 is begins.0, rest vs begins.1)

all-plans : (files : List (List ℕ)) (all : List NamedData) (P : PlanView → Type 0) → OfEach files all P → (plans : List PlanView) → ArePlans files all plans
    → All P plans
unfolding Later
all-plans files all P each plans are = All-from_recursion P plans (each-plan files all P each all plans (λ i l at. (i, at)) are)

-- a key of a launch is one of the release
key-there : (files : List (List ℕ)) (r : ReleaseData) (i : ℕ) (l : NamedData) (p : PlacedData) (key : PageKey) → slice_get r.launches i ≡ Some l
    → accepted_of l.launch files ≡ Ok p
    → Contains (measured_keys l.launch p) key → Contains (page_keys files r.launches) key
unfolding page_keys
key-there files r i l p key at accepted there =
    let all : List PageKey = flat_map (launch_keys files) r.launches in
    let in_launch : Has (launch_keys files l) key =
    subst (λ (place : Result PlacedData AuditFault). Has (keys_at l.launch place) key) (sym accepted) (has-contains (measured_keys l.launch p) key there) in
    (rising_keys-same all key).1 (contains-has all key (launch-has files r.launches i l key at in_launch))

-- the keys of all plans are keys of the release
pub all-known : (files : List (List ℕ)) (r : ReleaseData) (plans : List PlanView) → ArePlans files r.launches plans
    → All (λ v. All (Contains (page_keys files r.launches)) (keys_of v.links)) plans
unfolding OfEach
all-known files r plans are = all-plans files r.launches (λ v. All (Contains (page_keys files r.launches)) (keys_of v.links))
    (λ i l p v at accepted read_of. subst (All (Contains (page_keys files r.launches))) (sym read_of.keys)
    (λ k d low. key-there files r i l p (get_or (measured_keys l.launch p) k d) at accepted (All-contains_itself (measured_keys l.launch p) k d low)))
    plans are

-- ---- a table that has all pages of a release, and their digests

module _ (files : List (List ℕ)) (r : ReleaseData) (t : TableView)
    (numbered : AreNumbered r) (read : length files ≡ length r.paths) (is_table : IsTable t) (has_pages : t.pages ≡ release_pages files r.launches)
    (full : IsFull t) where
  items : Source → List ℕ
  items = source_bytes files (places_of files r.launches)

  table-keys : table.page_keys_of t.pages ≡ page_keys files r.launches
  unfolding items
  table-keys = ap table.page_keys_of has_pages ∙ named-keys items (page_keys files r.launches)

  -- the sources of a launch are its own
  own-source : (i : ℕ) (l : NamedData) (p : PlacedData) → slice_get r.launches i ≡ Some l → accepted_of l.launch files ≡ Ok p
      → (number : ℕ) (item : PlacedItem) (source : Source) → slice_get p.items number ≡ Some item → item.source ≡ Some source
      → items source ≡ bytes_of_source files p source
  unfolding items
  own-source i l p at accepted number item source here from =
      by_items l.launch.items refl (omega (arith, as-many-items l.launch files p is_placed, slice_get_within p.items number item here))
    where
      is_placed : IsPlaced l.launch files p
      is_placed = record { there = files-there r files numbered read i l at; placed = (accepted-is l.launch files p accepted).placed }

      by_source : (source : Source) (asked : Item) → IsSourceOf l.launch p asked (Some source)
          → source_bytes files (places_of files r.launches) source ≡ bytes_of_source files p source
      by_source (File n) asked own = refl
      by_source (Edited launch) asked own =
          let number_is : launch ≡ i = own.1 ∙ (numbered i l at).0 in
          let p_number : p.number ≡ launch = same-number l.launch files p is_placed ∙ sym own.1 in
          let place : slice_get (places_of files r.launches) launch ≡ Some (Ok p) =
          ap (slice_get (places_of files r.launches)) number_is ∙ place-at files r.launches i l at
          ∙ ap (λ (x : Result PlacedData AuditFault). Some x) accepted in
          rw (place, p_number) (sym (ap (λ (b : Bool). if b then unwrap_or p.edited [] else []) (nat-same launch)))

      by_items : (asked : List Item) → asked ≡ l.launch.items → number < length asked
          → source_bytes files (places_of files r.launches) source ≡ bytes_of_source files p source
      by_items [] e within = absurd (omega arith)
      by_items (first ∷ others) e within =
          let asked : slice_get l.launch.items number ≡ Some (get_or (first ∷ others) number first) =
          ap (λ xs. slice_get xs number) (sym e) ∙ slice_get-get_or (first ∷ others) number first within in
          let other : Item = get_or (first ∷ others) number first in
          by_source source other
          (subst (IsSourceOf l.launch p other) from (source-is l.launch files p is_placed number other item (record { in_launch = asked; placed = here })))

  -- the table has the page of a key of the release
  page-of : (key : PageKey) → Contains (page_keys files r.launches) key
      → (j : ℕ) × ((slot_of t.pages key ≡ Some j) × (j < length t.pages) × (slice_get t.pages j ≡ Some (page_named items key)))
  unfolding items page_keys
  page-of key there =
      by_slot (slot_of t.pages key) refl ((slots-there t.pages (is_table.rising) key).1 (subst (λ (ks : List PageKey). Contains ks key) (sym table-keys) there))
    where
      by_slot : (o : Option ℕ) → slot_of t.pages key ≡ o → is_some o ≡ true
          → (j : ℕ) × ((slot_of t.pages key ≡ Some j) × (j < length t.pages) × (slice_get t.pages j ≡ Some (page_named items key)))
      by_slot None is some = absurd (cc)
      by_slot (Some j) is some =
          let d : PageView = page_named items key in
          let low : j < length t.pages = slot-low t.pages key j d is in
          let here : slice_get t.pages j ≡ Some (get_or t.pages j d) = slice_get-get_or t.pages j d low in
          let same : (get_or t.pages j d).key ≡ key = slot-key t.pages key j (get_or t.pages j d) is here in
          let named : get_or t.pages j d ≡ page_named items (get_or t.pages j d).key
          = named-at items (page_keys files r.launches) j (get_or t.pages j d) (ap (λ (ps : List PageView). slice_get ps j) (sym has_pages) ∙ here) in
          (j, (is, low, here ∙ ap (λ (q : PageView). Some q) (named ∙ ap (page_named items) same)))

  -- the table's page of a launch's key is the launch's own, and has a digest
  HasOwn : PlacedData → PageKey → Type 0
  HasOwn p key = HasOwnPage t files p key × (is_some (digest_at t key) ≡ true)

  own-page : (p : PlacedData) (key : PageKey) → Contains (page_keys files r.launches) key → items key.source ≡ bytes_of_source files p key.source → HasOwn p key
  unfolding HasOwn items
  own-page p key there source =
      let found = page-of key there in
      let j : ℕ = found.0 in
      let named : page_named items key ≡ page_named (bytes_of_source files p) key = ap (λ (bytes : List ℕ). page_named (λ s. bytes) key) source in (
        ap (option_and_then (slice_get t.pages)) found.1.0 ∙ found.1.2 ∙ ap (λ (q : PageView). Some q) named,
        ap (λ (o : Option ℕ). is_some (option_and_then (digest_in t) o)) found.1.0 ∙ full j found.1.1,
      )

  own-pages : (i : ℕ) (l : NamedData) (p : PlacedData) → slice_get r.launches i ≡ Some l → accepted_of l.launch files ≡ Ok p
      → All (HasOwn p) (measured_keys l.launch p)
  own-pages i l p at accepted = λ k d low.
      let keys : List PageKey = measured_keys l.launch p in
      let sources : All (λ key. items key.source ≡ bytes_of_source files p key.source) keys =
      All-from_recursion (λ key. items key.source ≡ bytes_of_source files p key.source) keys
      (each-measured (λ key. items key.source ≡ bytes_of_source files p key.source) l.launch p
      (λ number n item source here from below. own-source i l p at accepted number item source here from)) in
      own-page p (get_or keys k d) (key-there files r i l p (get_or keys k d) at accepted (All-contains_itself keys k d low)) (sources k d low)

  -- the digests of all keys
  all-some : (keys : List PageKey) → AllByRecursion (λ key. is_some (digest_at t key) ≡ true) keys → has_all t keys ≡ true
  all-some [] each = refl
  all-some (key ∷ keys) each = rw (each.0) (all-some keys each.1)

  plan-has : (i : ℕ) (l : NamedData) (p : PlacedData) (v : PlanView) → slice_get r.launches i ≡ Some l → accepted_of l.launch files ≡ Ok p
      → IsReadOf l.launch p v
      → has_all t (keys_of v.links) ≡ true
  unfolding HasOwn
  plan-has i l p v at accepted read_of =
      ap (has_all t) read_of.keys
      ∙ all-some (measured_keys l.launch p)
      (recursion_from_All (λ key. is_some (digest_at t key) ≡ true) (measured_keys l.launch p) (λ k d low. (own-pages i l p at accepted k d low).1))

  pub plan-rim : (i : ℕ) (l : NamedData) (p : PlacedData) (v : PlanView) → slice_get r.launches i ≡ Some l → accepted_of l.launch files ≡ Ok p
      → IsReadOf l.launch p v
      → rim_for l.launch files ≡ Ok (value_in t v)
  unfolding HasOwn
  plan-rim i l p v at accepted read_of =
      let keys : List PageKey = keys_of v.links in
      let pages_own : All (HasOwnPage t files p) keys =
      subst (All (HasOwnPage t files p)) (sym read_of.keys) (λ k d low. (own-pages i l p at accepted k d low).0) in
      let row : filter_map (digest_at t) keys ≡ map (own_digest files p) keys
      = row-own t files p keys (filter_map (digest_at t) keys) is_table pages_own (row-of-all t keys (plan-has i l p v at accepted read_of)) in
      accepted-rim l.launch files p v (files-there r files numbered read i l at) accepted read_of
      ∙ ap (λ (digests : List Measurement). Ok (chain_of v digests)) (sym row)

  -- ---- all launches

  pub all-have : (plans : List PlanView) → ArePlans files r.launches plans → All (λ v. has_all t (keys_of v.links) ≡ true) plans
  unfolding OfEach
  all-have = all-plans files r.launches (λ v. has_all t (keys_of v.links) ≡ true) plan-has

  outcomes-are : (ls : List NamedData) (rs : List (Result AcceptedLaunch RefusedLaunch)) (plans : List PlanView) (rims : List Measurement)
      → Later r.launches ls → AreOutcomes files ls rs → ArePlans files ls plans → map (λ m. m.bytes) rims ≡ map (value_in t) plans
      → map seen (with_rims (map unknown_outcome rs) rims) ≡ outcomes_for files ls
  unfolding Later
  outcomes-are [] [] plans rims later are plans_are values = refl
  outcomes-are [] (o ∷ rs) plans rims later are plans_are values = absurd are
  outcomes-are (l ∷ ls) [] plans rims later are plans_are values = absurd are
  outcomes-are (l ∷ ls) (Err refused ∷ rs) plans rims later are plans_are values =
      let others : ArePlans files ls plans =
      subst (λ (place : Result PlacedData AuditFault). BeginsWith l.launch place (ArePlans files ls) plans) (own-refusal files l refused are.0) plans_are in
      ap₂ (λ (o : Result (List ℕ) AuditFault) (os : List (Result (List ℕ) AuditFault)). o ∷ os)
      (sym are.0.2.refused)
      (outcomes-are ls rs plans rims (later-next r.launches l ls later) are.1 others values)
  outcomes-are (l ∷ ls) (Ok a ∷ rs) plans rims later are plans_are values =
      by_plans plans rims (subst (λ (place : Result PlacedData AuditFault). BeginsWith l.launch place (ArePlans files ls) plans) place plans_are) values
      (λ vs ms others same. outcomes-are ls rs vs ms (later-next r.launches l ls later) are.1 others same)
    where
      place : accepted_of l.launch files ≡ Ok a.placed
      place = own-place files l a are.0

      by_plans : (vs : List PlanView) (ms : List Measurement) → BeginsWith l.launch (Ok a.placed) (ArePlans files ls) vs
          → map (λ m. m.bytes) ms ≡ map (value_in t) vs
          → ((us : List PlanView) (ns : List Measurement) → ArePlans files ls us → map (λ m. m.bytes) ns ≡ map (value_in t) us
          → map seen (with_rims (map unknown_outcome rs) ns) ≡ outcomes_for files ls)
          → map seen (with_rims (map unknown_outcome (Ok a ∷ rs)) ms) ≡ outcomes_for files (l ∷ ls)
      by_plans [] ms begins same rest = absurd begins
      by_plans (v ∷ vs) [] begins same rest = absurd (cc)
      by_plans (v ∷ vs) (m ∷ ms) begins same rest =
          let here : m.bytes ≡ value_in t v = cc in
          let others : map (λ n. n.bytes) ms ≡ map (value_in t) vs = cc in
          let found = later 0 l refl in
          ap₂ (λ (o : Result (List ℕ) AuditFault) (os : List (Result (List ℕ) AuditFault)). o ∷ os)
          (ap (λ (rim : List ℕ). Ok rim) here ∙ sym (plan-rim found.0 l a.placed v found.1 place begins.0))
          (rest vs ms begins.1 others)

-- ---- the whole report

-- pages that were found are those of the release, and they are not too many
pub found-pages : (files : List (List ℕ)) (ls : List NamedData) (pages : List PageView) → pages_of files ls ≡ Ok pages
    → (pages ≡ release_pages files ls) × (measured_of files ls ≡ Ok (report_of files ls))
found-pages files ls pages found = at (nat_lt 1048576 (length (page_keys files ls))) refl found
  where
    at : (b : Bool) → nat_lt 1048576 (length (page_keys files ls)) ≡ b → (if b then Err TooManyPages else Ok (release_pages files ls)) ≡ Ok pages
        → (pages ≡ release_pages files ls) × (measured_of files ls ≡ Ok (report_of files ls))
    at true over e = absurd (cc)
    at false over e = (cc, ap (λ (b : Bool). if b then Err TooManyPages else Ok (report_of files ls)) over)

-- the keys of the pages of a release rise
pub release-rises : (files : List (List ℕ)) (ls : List NamedData) → IsRising (table.page_keys_of (release_pages files ls))
unfolding page_keys
release-rises files ls =
    subst IsRising (sym (named-keys (source_bytes files (places_of files ls)) (page_keys files ls))) (rising_keys-rise (flat_map (launch_keys files) ls))

pub rising-pages : (files : List (List ℕ)) (ls : List NamedData) (pages : List PageView) → pages_of files ls ≡ Ok pages → IsRising (table.page_keys_of pages)
rising-pages files ls pages found =
    subst (λ (ps : List PageView). IsRising (table.page_keys_of ps)) (sym (found-pages files ls pages found).0) (release-rises files ls)

-- the keys of pages that were found are those of the release
pub found-keys : (files : List (List ℕ)) (ls : List NamedData) (pages : List PageView) → pages_of files ls ≡ Ok pages
    → table.page_keys_of pages ≡ page_keys files ls
found-keys files ls pages found =
    ap table.page_keys_of (found-pages files ls pages found).0 ∙ named-keys (source_bytes files (places_of files ls)) (page_keys files ls)

-- what came of the launches of a release, and its report, from the values of its plans with a table of its pages
module _ (v : OutcomesView) (t : TableView) (pages : List PageView) (plans : List PlanView) (rims : List Measurement) (own : IsLaidOut v)
    (found : pages_of v.files v.release.launches ≡ Ok pages) (are : ArePlans v.files v.release.launches plans)
    (is_table : IsTable t) (same : t.pages ≡ pages) (full : IsFull t) (values : map (λ m. m.bytes) rims ≡ map (value_in t) plans) where
  pub outcomes-is : map seen (with_rims (map unknown_outcome v.launches) rims) ≡ outcomes_for v.files v.release.launches
  unfolding Later
  outcomes-is =
      outcomes-are v.files v.release t own.0 own.1 is_table (same ∙ (found-pages v.files v.release.launches pages found).0) full
      v.release.launches v.launches plans rims (λ i l at. (i, at)) own.2 are values

  pub report-is : measured_of v.files v.release.launches
      ≡ Ok (report_with (lines_with v.release.launches (with_rims (map unknown_outcome v.launches) rims)) (length pages))
  report-is =
      let lines = own-lines v.files v.release.launches (with_rims (map unknown_outcome v.launches) rims) outcomes-is in
      let count : length pages ≡ length (page_keys v.files v.release.launches)
      = sym (length-map pages (λ p. p.key)) ∙ ap length (found-keys v.files v.release.launches pages found) in
      (found-pages v.files v.release.launches pages found).1
      ∙ ap (λ (text : List ℕ). Ok text)
      (sym (ap (λ (text : List ℕ). report_with text (length pages)) lines ∙ ap (report_with (lines_of v.files v.release.launches)) count))
