-- Each measured page that a launch's list of commands creates is a page of one of its items.
use Rattle.std.proofs.Common.{◌≡◌, ℕ, ◌+◌, ◌-◌, ◌<◌, ◌≤◌, ◌∙◌, inl, inr, zero, suc, true, not, List, [], ◌∷◌, ◌++◌, length, slice_index_or, refl, ap, sym}
use Rattle.std.proofs.Common.{subst, arith}
use Rattle.std.specs.Prelude.{Option, Some, None, Result, Ok, eqb}
use Rattle.std.specs.List.{AllByRecursion, slice_get}
use Rattle.std.specs.Option.{option_and_then, option_map}
use Rattle.std.proofs.lemmas.Bool.{cases_Bool}
use Rattle.std.proofs.lemmas.Option.{get_or_from_slice_get, same_Some, slice_get-map}
use Rattle.refusal.specs.Checks.{unless_refused}
use Rattle.rim_desc.specs.Measurement.{measurement_of}
use Rattle.rim_desc.specs.PageBytes.{page_bytes}
use Rattle.rim_desc.specs.declared.command.Command.{Command}
use Rattle.rim_desc.specs.declared.command.Command.TheVariants.{Activate, DataCreate}
use Rattle.rim_desc.specs.declared.measurement.Algo.{Algo}
use Rattle.rim_desc.specs.declared.measurement.Measurement.{Measurement}
use Rattle.rmm_model.specs.Blocks.{granules}
use Rattle.rmm_model.specs.declared.table.Table.{Table}
use Rattle.rtt_plan.specs.Missing.{missing}
use Rattle.rtt_plan.specs.Planned.{after_data, after_region, data_checks, region_checks}
use Rattle.rtt_plan.specs.declared.run.Run.{Run}
use Rattle.list_model.specs.declared.content.PageContent.{PageContent}
use Rattle.list_model.specs.declared.content.PageContent.TheVariants.{Measured, Unmeasured, Unknown}
use Rattle.list_model.specs.Content.{is_measured}
use Rattle.rim_desc.specs.declared.source.Source.{Source}
use Rattle.list_model.specs.Entries.{Contents, Entry, Page, Whole, command_of, commands_of, delegate_all, delegated, granule, item_entries, page_entries}
use Rattle.list_model.specs.Entries.{page_entry, page_of, rec_entries, rec_granules, region_entries, run_entries, table_entries}
use Rattle.list_model.proofs.GranulesDelegated.{length-granules}
use Rattle.rim_launch.specs.LaunchData.{LaunchData}
use Rattle.rim_launch.specs.Realm.{realm_params}
use Rattle.rim_launch.specs.declared.config.Config.{Config}
use Rattle.rim_launch.specs.declared.item.Region.{Region}
use Rattle.rim_launch.specs.declared.step.Step.{Step}
use Rattle.rim_launch.specs.declared.step.Step.TheVariants as step
use Rattle.ipa_layout.specs.Layout.{IsPlaced, PlacedData, bytes_of_source}
use Rattle.ipa_layout.specs.Laws.{page_total}
use Rattle.ipa_layout.specs.declared.placed.PlacedItem.{PlacedItem}
use Rattle.ipa_layout.specs.declared.rec.PlacedRec.{PlacedRec}
use Rattle.ipa_layout.proofs.PlacedLaunchLaws.{few-pages}
use Rattle.page_jobs.specs.Page.{PageView, digest_of}
use Rattle.page_jobs.specs.Page as page
use Rattle.rmi_list.specs.Listed.{Listing, Progress, lacks_rule, list_item, list_rec, list_region, list_step, list_steps, listed, opening_progress}
use Rattle.rmi_list.specs.Listed.{opening_checks, opening_entries, plan_checks, pool_check}
use Rattle.rmi_list.specs.Measured.{known_of, page_contents, page_base, page_content}
use Rattle.rmi_list.specs.RecParams.{rec_params}
use Rattle.rmi_list.specs.declared.fault.ListFault.{ListFault}
use Rattle.rmi_list.specs.declared.fault.ListFault.TheVariants as fault
use Rattle.rmi_list.proofs.CheckAfterCheck.{bound, fronted, is-done}
use Rattle.rim_audit.specs.inside.Commands.{HasPage}
use Rattle.rim_accepted.proofs.PagesOfItems.{each-append, item-pages}

-- ---- entries

-- the launch has the page that an entry creates, if it creates a measured one
abbrev IsOwn : PlacedData → Entry → Type 0
IsOwn p (Whole c) = Unit {0}
IsOwn p (Page granule ipa item page) = HasPage p item page

abbrev AreOwn : PlacedData → List Entry → Type 0
AreOwn p entries = AllByRecursion (IsOwn p) entries

delegates-own : (p : PlacedData) (gs : List ℕ) → AreOwn p (delegate_all gs)
delegates-own p [] = tt
delegates-own p (g ∷ gs) = (tt, delegates-own p gs)

tables-own : (p : PlacedData) (pool n : ℕ) (ts : List Table) → AreOwn p (table_entries pool n ts)
unfolding table_entries
tables-own p pool n [] = tt
tables-own p pool n (t ∷ ts) = (tt, (tt, tables-own p pool (n + 1) ts))

runs-own : (p : PlacedData) (pool n start : ℕ) (ts : List Table) (rs : List Run) → AreOwn p (run_entries pool n start ts rs)
unfolding run_entries
runs-own p pool n start ts [] = tt
runs-own p pool n start ts (r ∷ rs) =
    let new : List Table = missing start ts r.level r.base in
    each-append (IsOwn p) (table_entries pool n new) _ (tables-own p pool n new) (tt, runs-own p pool (n + length new) start (ts ++ new) rs)

pages-own : (p : PlacedData) (number : ℕ) (item : PlacedItem) → slice_get p.items number ≡ Some item
    → (pool n start : ℕ) (ts : List Table) (content : PageContent) (k : ℕ) (xs : List ℕ)
    → (is_measured content ≡ true → (source : Source) × (item.source ≡ Some source)) → k + length xs ≤ item.pages
    → AreOwn p (page_entries pool n start ts content number k xs)
unfolding page_entries
pages-own p number item at pool n start ts content k [] has fits = tt
pages-own p number item at pool n start ts content k (x ∷ xs) has fits =
    let new : List Table = missing start ts 3 x in
    each-append (IsOwn p) (table_entries pool n new) _ (tables-own p pool n new)
    (tt, (here content has, pages-own p number item at pool (n + length new + 1) start (ts ++ new) content (k + 1) xs has (omega (arith, fits))))
  where
    here : (content : PageContent) → (is_measured content ≡ true → (source : Source) × (item.source ≡ Some source))
        → IsOwn p (page_entry content (granule pool (n + length (missing start ts 3 x))) x number k)
    here Measured has = let found = has refl in record { item = item; at = at; low = omega (arith, fits); source = found.0; from = found.1 }
    here Unmeasured has = tt
    here Unknown has = tt

-- an item that is measured has a source
measured-from : (item : PlacedItem) → is_measured (page_content item) ≡ true → (source : Source) × (item.source ≡ Some source)
measured-from item = go item.source refl
  where
    go : (o : Option Source) → item.source ≡ o → is_measured (known_of o item.measured) ≡ true → (source : Source) × (item.source ≡ Some source)
    go None from on = absurd (cc)
    go (Some source) from on = (source, from)

-- ---- steps

region-own : (p : PlacedData) (c : Config) (w : Progress) (r : Region) (done : Listing) → list_region c w r ≡ Ok done → AreOwn p done.entries
unfolding list_region
region-own p c w r done at =
    let entries : List Entry = region_entries c.pool_base w.taken w.plan r.base r.end in
    let made : Listing = record { entries = entries; next = record w { plan = after_region w.plan r.base r.end; taken = w.taken + delegated entries } } in
    let same : made ≡ done = is-done (plan_checks (region_checks w.plan r.base r.end) ++ pool_check c w.taken entries ∷ []) made done at in
    subst (λ (d : Listing). AreOwn p d.entries) same (runs-own p c.pool_base w.taken w.plan.space.start w.plan.space.tables _)

item-own : (p : PlacedData) (c : Config) (w : Progress) (number : ℕ) (item : PlacedItem) (done : Listing) → slice_get p.items number ≡ Some item
    → list_item c w number item ≡ Ok done → AreOwn p done.entries
unfolding list_item
item-own p c w number item done here = elim (cases_Bool (eqb item.pages 0)) [
  | inl none ↦ rw none (λ at.
      (let idle : Listing = record { entries = []; next = w } in
      let same : idle ≡ done = cc in
      subst (λ (d : Listing). AreOwn p d.entries) same tt))
  | inr some ↦ rw some (λ at.
      (let base : ℕ = page_base item in
      let entries : List Entry = item_entries c.pool_base w.taken w.plan (page_content item) number base item.pages in
      let made : Listing = record { entries = entries; next = record w { plan = after_data w.plan base item.pages; taken = w.taken + delegated entries } } in
      let same : made ≡ done = is-done (plan_checks (data_checks w.plan base item.pages) ++ pool_check c w.taken entries ∷ []) made done at in
      subst (λ (d : Listing). AreOwn p d.entries) same
      (pages-own p number item here c.pool_base w.taken w.plan.space.start w.plan.space.tables (page_content item) 0 (granules item.pages base)
      (measured-from item) (omega (arith, length-granules item.pages base)))))
]

rec-own : (p : PlacedData) (c : Config) (w : Progress) (number : ℕ) (r : PlacedRec) (done : Listing) → list_rec c w number r ≡ Ok done → AreOwn p done.entries
unfolding list_rec
rec-own p c w number r done at =
    let params = rec_params number r (granules c.num_aux (granule c.pool_base (w.taken + 1))) in
    let entries : List Entry = rec_entries c.pool_base w.taken c.num_aux params in
    let made : Listing = record { entries = entries; next = record w { taken = w.taken + delegated entries; num_recs = w.num_recs + 1 } } in
    let same : made ≡ done =
    is-done ((fault.RecOrder, not (eqb number w.num_recs)) ∷ (
      fault.RecNotRunnable,
      lacks_rule c.rec_rule r,
    ) ∷ pool_check c w.taken entries ∷ []) made done at in
    subst (λ (d : Listing). AreOwn p d.entries) same
    (each-append (IsOwn p) (delegate_all (rec_granules c.pool_base w.taken c.num_aux)) _ (delegates-own p (rec_granules c.pool_base w.taken c.num_aux))
    (tt, tt))

-- what lists nothing
idle-own : (p : PlacedData) (w : Progress) (done : Listing)
    → (let idle : Result Listing ListFault = Ok (record { entries = []; next = w }) in idle) ≡ Ok done → AreOwn p done.entries
idle-own p w done at =
    let idle : Listing = record { entries = []; next = w } in
    let same : idle ≡ done = cc in
    subst (λ (d : Listing). AreOwn p d.entries) same tt

step-own : (l : LaunchData) (p : PlacedData) (w : Progress) (s : Step) (done : Listing) → list_step l p w s ≡ Ok done → AreOwn p done.entries
step-own l p w (step.Ram n) done at = by (slice_get l.ram n) refl at
  where
    by : (o : Option Region) → slice_get l.ram n ≡ o → list_step l p w (step.Ram n) ≡ Ok done → AreOwn p done.entries
    by None is = rw is (λ same. idle-own p w done same)
    by (Some r) is = rw is (λ same. region-own p l.config w r done same)
step-own l p w (step.Item n) done at = by (slice_get p.items n) refl at
  where
    by : (o : Option PlacedItem) → slice_get p.items n ≡ o → list_step l p w (step.Item n) ≡ Ok done → AreOwn p done.entries
    by None is = rw is (λ same. idle-own p w done same)
    by (Some item) is = rw is (λ same. item-own p l.config w n item done is same)
step-own l p w (step.Rec n) done at = by (slice_get p.recs n) refl at
  where
    by : (o : Option PlacedRec) → slice_get p.recs n ≡ o → list_step l p w (step.Rec n) ≡ Ok done → AreOwn p done.entries
    by None is = rw is (λ same. idle-own p w done same)
    by (Some r) is = rw is (λ same. rec-own p l.config w n r done same)

steps-own : (l : LaunchData) (p : PlacedData) (ss : List Step) (w : Progress) (entries : List Entry) → list_steps l p w ss ≡ Ok entries → AreOwn p entries
unfolding list_steps
steps-own l p [] w entries at =
    let end : List Entry = Whole Activate ∷ [] in
    let same : end ≡ entries = cc in
    subst (AreOwn p) same (tt, tt)
steps-own l p (s ∷ ss) w entries at =
    let first = bound (list_step l p w s) _ entries at in
    let second = fronted (first.0).entries (list_steps l p (first.0).next ss) entries (first.2) in
    subst (AreOwn p) (sym (second.2))
    (each-append (IsOwn p) (first.0).entries second.0 (step-own l p w s first.0 first.1) (steps-own l p ss (first.0).next second.0 second.1))

listed-own : (l : LaunchData) (p : PlacedData) (entries : List Entry) → listed l p ≡ Ok entries → AreOwn p entries
unfolding listed
listed-own l p entries at =
    let c : Config = l.config in
    let first = bound (unless_refused (opening_checks c p.recs) (opening_entries c)) _ entries at in
    let opened : opening_entries c ≡ first.0 = is-done (opening_checks c p.recs) (opening_entries c) first.0 first.1 in
    let second = fronted first.0 (list_steps l p (opening_progress c) l.steps) entries first.2 in
    let params = realm_params c in
    let opening_own : AreOwn p (opening_entries c)
    = each-append (IsOwn p) (delegate_all (granules (params.rtt_num_start + 1) c.pool_base)) _
    (delegates-own p (granules (params.rtt_num_start + 1) c.pool_base)) (tt, tt) in
    subst (AreOwn p) (sym second.2)
    (each-append (IsOwn p) first.0 second.0 (subst (AreOwn p) opened opening_own) (steps-own l p l.steps (opening_progress c) second.0 second.1))

-- ---- the page of a command

own-at : (p : PlacedData) (entries : List Entry) (i number k : ℕ) → AreOwn p entries → option_and_then page_of (slice_get entries i) ≡ Some (number, k)
    → HasPage p number k
own-at p [] i number k own at = absurd (cc)
own-at p (e ∷ entries) zero number k own at = by e own.0 at
  where
    by : (x : Entry) → IsOwn p x → page_of x ≡ Some (number, k) → HasPage p number k
    by (Whole c) here is = absurd (cc)
    by (Page g ipa item n) here is =
        let same = same_Some (item, n) (number, k) is in
        let first : item ≡ number = ap (λ (x : ℕ × ℕ). x.0) same in
        let second : n ≡ k = ap (λ (x : ℕ × ℕ). x.1) same in
        subst (λ (a : ℕ). HasPage p a k) first (subst (λ (b : ℕ). HasPage p item b) second here)
own-at p (e ∷ entries) (suc i) number k own at = own-at p entries i number k own.1 at

pub page-there : (l : LaunchData) (p : PlacedData) (entries : List Entry) (i number k : ℕ) → listed l p ≡ Ok entries
    → option_and_then page_of (slice_get entries i) ≡ Some (number, k) → HasPage p number k
page-there l p entries i number k is at = own-at p entries i number k (listed-own l p entries is) at

-- ---- the content of a page

pub item-there : (items seen : List PlacedItem) (number : ℕ) (item d : PlacedItem) → seen ≡ items → slice_get items number ≡ Some item
    → slice_index_or seen number d ≡ item
item-there items seen number item d same at = get_or_from_slice_get seen number item d (ap (λ (xs : List PlacedItem). slice_get xs number) same ∙ at)

-- an item has the pages after one of its pages, as many as are left
pub has-after : (p : PlacedData) (items : List PlacedItem) (number page k : ℕ) (d : PlacedItem) → items ≡ p.items → HasPage p number page
    → k ≤ (slice_index_or items number d).pages - page - 1 → HasPage p number (page + k)
has-after p items number page k d same has left =
    let is : slice_index_or items number d ≡ has.item = item-there p.items items number has.item d same has.at in
    let pages : (slice_index_or items number d).pages ≡ has.item.pages = ap (λ (i : PlacedItem). i.pages) is in
    record { item = has.item; at = has.at; low = omega (arith, left, pages, has.low); source = has.source; from = has.from }

-- a placed launch has few pages
pub page-few : (l : LaunchData) (files : List (List ℕ)) (p : PlacedData) (number k : ℕ) → IsPlaced l files p → HasPage p number k → k < 1048576
page-few l files p number k is_placed has =
    let most : has.item.pages ≤ page_total p = item-pages p.items number has.item has.at in
    let few : page_total p ≤ 1048576 = few-pages l files p is_placed in
    omega (arith, has.low, most, few)

pub page-low : (l : LaunchData) (files : List (List ℕ)) (p : PlacedData) (number k : ℕ) → IsPlaced l files p → HasPage p number k → k < 4503599627370496
page-low l files p number k is_placed has = omega (arith, page-few l files p number k is_placed has)

-- what is hashed is the item's page
pub content-is : (l : LaunchData) (files : List (List ℕ)) (p : PlacedData) (number k : ℕ) (item : PlacedItem) (source : Source) (seen : PageView)
    (digest : Measurement)
    → slice_get p.items number ≡ Some item → item.source ≡ Some source → seen.key.algo ≡ l.config.algo
    → page.bytes_of_page seen ≡ page_bytes item.lead (bytes_of_source files p source) k
    → digest.bytes ≡ digest_of seen → digest ≡ page_contents l files p number k
content-is l files p number k item source seen digest at from algo bytes own =
    rw (at, from) (ap (λ (bs : List ℕ). let m : Measurement = record { bytes = bs } in m)
    (own ∙ ap (λ (a : Algo). measurement_of a (page.bytes_of_page seen)) algo ∙ ap (measurement_of l.config.algo) bytes))

-- a command whose page has the right content is the launch's
pub command-is : (pages : Contents) (m : Measurement) (entries : List Entry) (i : ℕ) (c : Command)
    → ((number k : ℕ) → option_and_then page_of (slice_get entries i) ≡ Some (number, k) → m ≡ pages number k)
    → option_map (command_of (λ item k. m)) (slice_get entries i) ≡ Some c → slice_get (commands_of pages entries) i ≡ Some c
command-is pages m entries i c is at = slice_get-map (command_of pages) entries i ∙ by (slice_get entries i) is at
  where
    by : (o : Option Entry) → ((number k : ℕ) → option_and_then page_of o ≡ Some (number, k) → m ≡ pages number k)
        → option_map (command_of (λ item k. m)) o ≡ Some c → option_map (command_of pages) o ≡ Some c
    by None own same = same
    by (Some (Whole w)) own same = same
    by (Some (Page g ipa item k)) own same = ap (λ (x : Measurement). Some (DataCreate g ipa (Some x))) (sym (own item k refl)) ∙ same
