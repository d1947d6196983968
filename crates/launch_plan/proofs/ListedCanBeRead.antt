-- What a launch that has a list has: regions that can be read, links that fit, and not too many pages.
use Rattle.std.proofs.Common.{inl, inr, ◌≡◌, ℕ, ◌+◌, ◌-◌, ◌*◌, ◌^◌, ◌<◌, ◌≤◌, ◌∙◌, refl, ap, subst, arith, true, false, not, eqb, List, [], ◌∷◌, ◌++◌, length, Bool}
use Rattle.std.specs.Prelude.{Option, Result, Ok, Err, IsOk, None, Some, max, if◌then◌else◌}
use Rattle.std.specs.List.{All, flat_map, slice_get}
use Rattle.std.proofs.Math.Nat.{pow-le-pow_right}
use Rattle.std.proofs.lemmas.Bool.{cases_Bool, ltb-false, or_parts}
use Rattle.std.proofs.lemmas.Bool.Decides.{nat_tests}
use Rattle.std.proofs.lemmas.List.{length-append}
use Rattle.std.proofs.lemmas.List.Concat.{flat_map-append}
use Rattle.std.proofs.lemmas.List.Elements.{All-append, All-cons, All-nil}
use Rattle.refusal.specs.Checks.{Check, unless_refused}
use Rattle.rmm_model.specs.Start.{is_width, start_level}
use Rattle.rmm_model.proofs.AnswersOfChecks.{holds, none-holds, off-at}
use Rattle.rmm_model.specs.Blocks.{granules}
use Rattle.rtt_plan.specs.Planned.{after_data, after_region, data_checks, region_checks}
use Rattle.rtt_plan.proofs.AcceptedCalls.{data-accepted, region-accepted}
use Rattle.rtt_plan.proofs.PlansStayFormed.{start-highest}
use Rattle.rtt_plan.proofs.RunsCoverRegion.{region-runs}
use Rattle.list_model.specs.Entries.{Entry, delegated, granule, item_entries, rec_entries, region_entries}
use Rattle.list_model.proofs.GranulesDelegated.{length-granules}
use Rattle.rim_launch.specs.LaunchData.{LaunchData}
use Rattle.rim_launch.specs.declared.config.Config.{Config}
use Rattle.rim_launch.specs.declared.item.Region.{Region}
use Rattle.rim_launch.specs.declared.step.Step.{Step}
use Rattle.rim_launch.specs.declared.step.Step.TheVariants as step
use Rattle.ipa_layout.specs.Layout.{PlacedData}
use Rattle.ipa_layout.specs.declared.placed.PlacedItem.{PlacedItem}
use Rattle.ipa_layout.specs.declared.rec.PlacedRec.{PlacedRec}
use Rattle.rmi_list.specs.Listed.{lacks_rule, Listing, Progress, list_item, list_named, list_rec, list_region, list_step, list_steps, listed, opening_progress, opening_checks, opening_entries, plan_checks, pool_check}
use Rattle.rmi_list.specs.Measured.{least_level, page_base, page_content}
use Rattle.rmi_list.specs.RecParams.{rec_params}
use Rattle.rmi_list.specs.declared.fault.ListFault.{ListFault}
use Rattle.rmi_list.specs.declared.fault.ListFault.TheVariants as fault
use Rattle.rmi_list.proofs.CheckAfterCheck.{bound, fronted, is-done, plan-off}
use Rattle.rim_desc.specs.Rule.{extends}
use Rattle.rim_desc.specs.Measurement.{measurement_of}
use Rattle.rim_desc.specs.Rec.{rec_page_of}
use Rattle.launch_plan.specs.declared.link.Link.TheVariants as link
use Rattle.launch_plan.specs.Links.{keys_in, keys_of}
use Rattle.launch_plan.specs.declared.link.Link.{Link}
use Rattle.launch_plan.specs.Fitting.{IsFitting}
use Rattle.launch_plan.specs.inside.Steps.{IsReadable, IsReadableRegion, item_links, rec_links, region_links, step_links}
use Rattle.launch_plan.proofs.LinksFit.{item-fits, item-keys-few, pages-taken, runs-fit, runs-keyless}

-- the last of some checks is off where none holds
last-off : (checks : List (Check ListFault)) (last : Check ListFault) → holds (checks ++ last ∷ []) ≡ false → last.1 ≡ false
last-off [] last off = (or_parts (last.1) false off).0
last-off (c ∷ cs) last off = last-off cs last ((or_parts (c.1) (holds (cs ++ last ∷ [])) off).1)

-- what was listed so far is within bounds
record IsBounded (c : Config) (w : Progress) : Type 0 where
  protected_end : w.plan.space.protected_end ≤ 2 ^ 47
  pool : w.taken ≤ c.pool_count

-- some links fit, and have no more keys than granules were taken
record AreRead (c : Config) (w : Progress) (links : List Link) (next : Progress) : Type 0 where
  fit : All IsFitting links
  few : w.taken + length (keys_of links) ≤ next.taken
  bounded : IsBounded c next

idle : (c : Config) (w next : Progress) → IsBounded c w → w ≡ next → AreRead c w [] next
idle c w next is_bounded same = subst (λ (v : Progress). AreRead c w [] v) same (record { fit = All-nil IsFitting; few = omega arith; bounded = is_bounded })

pub least-low : (c : Config) → c.block_level ≤ 3 → least_level c ≤ 3
least-low c low = by_start (start_level c.s2sz) (start-highest c.s2sz)
  where
    by_start : (s : ℕ) → s ≤ 2 → max c.block_level s ≤ 3
    by_start s le = omega arith

record IsRegionRead (c : Config) (w : Progress) (r : Region) (next : Progress) : Type 0 where
  readable : IsReadableRegion (Some r)
  read : AreRead c w (region_links (least_level c) (Some r)) next

region-read : (c : Config) (w : Progress) (r : Region) (done : Listing) → IsBounded c w → list_region c w r ≡ Ok done → IsRegionRead c w r done.next
unfolding list_region
region-read c w r done is_bounded at =
    let entries : List Entry = region_entries c.pool_base w.taken w.plan r.base r.end in
    let made : Listing = record { entries = entries; next = record w { plan = after_region w.plan r.base r.end; taken = w.taken + delegated entries } } in
    let last : Check ListFault = pool_check c w.taken entries in
    let checks : List (Check ListFault) = plan_checks (region_checks w.plan r.base r.end) ++ last ∷ [] in
    let same : made ≡ done = is-done checks made done at in
    let none : holds checks ≡ false = none-holds checks made done at in
    let accepts = region-accepted w.plan r.base r.end (plan-off (region_checks w.plan r.base r.end) (last ∷ []) none) in
    let protected_end : w.plan.space.protected_end ≤ 2 ^ 47 = is_bounded.protected_end in
    let inside : r.end ≤ w.plan.space.protected_end = accepts.inside in
    let small : r.end ≤ 2 ^ 47 = omega arith in
    let room : w.taken + delegated entries ≤ c.pool_count = ltb-false c.pool_count (w.taken + delegated entries) (last-off (plan_checks (region_checks w.plan r.base r.end)) last none) in
    let runs = region-runs (least_level c) r.base r.end (least_level c) (omega arith) accepts.whole (least-low c c.level) r.ordered in
    subst (λ (d : Listing). IsRegionRead c w r d.next) same (record {
      readable = (accepts.whole, small);
      read = record {
        fit = runs-fit (least_level c) r.base r.end _ runs small;
        few = rw (runs-keyless _) (omega arith);
        bounded = record { protected_end = is_bounded.protected_end; pool = room };
      };
    })

item-read : (c : Config) (w : Progress) (number : ℕ) (item : PlacedItem) (done : Listing) → IsBounded c w → list_item c w number item ≡ Ok done
    → AreRead c w (item_links c.algo (Some item)) done.next
unfolding list_item
item-read c w number item done is_bounded = elim (cases_Bool (eqb item.pages 0)) [
  | inl none ↦ rw none (λ at.
      (let made : Listing = record { entries = []; next = w } in
      let same : made ≡ done = cc in
      idle c w done.next is_bounded (ap (λ (d : Listing). d.next) same)))
  | inr some ↦ (λ at. pages-read some (rw some at at))
]
  where
    pages-read : eqb item.pages 0 ≡ false
        → unless_refused (plan_checks (data_checks w.plan (page_base item) item.pages) ++ pool_check c w.taken (item_entries c.pool_base w.taken w.plan (page_content item) number (page_base item) item.pages) ∷ []) (record {
          entries = item_entries c.pool_base w.taken w.plan (page_content item) number (page_base item) item.pages;
          next = record w { plan = after_data w.plan (page_base item) item.pages; taken = w.taken + delegated (item_entries c.pool_base w.taken w.plan (page_content item) number (page_base item) item.pages) };
        }) ≡ Ok done
        → AreRead c w (item_links c.algo (Some item)) done.next
    pages-read some at =
        (let base : ℕ = page_base item in
        let entries : List Entry = item_entries c.pool_base w.taken w.plan (page_content item) number base item.pages in
        let made : Listing = record { entries = entries; next = record w { plan = after_data w.plan base item.pages; taken = w.taken + delegated entries } } in
        let last : Check ListFault = pool_check c w.taken entries in
        let checks : List (Check ListFault) = plan_checks (data_checks w.plan base item.pages) ++ last ∷ [] in
        let same : made ≡ done = is-done checks made done at in
        let none : holds checks ≡ false = none-holds checks made done at in
        let accepts = data-accepted w.plan base item.pages (plan-off (data_checks w.plan base item.pages) (last ∷ []) none) in
        let protected_end : w.plan.space.protected_end ≤ 2 ^ 47 = is_bounded.protected_end in
        let inside : base + 4096 * item.pages ≤ w.plan.space.protected_end = accepts.inside in
        let room : w.taken + delegated entries ≤ c.pool_count = ltb-false c.pool_count (w.taken + delegated entries) (last-off (plan_checks (data_checks w.plan base item.pages)) last none) in
        let keys : length (keys_of (item_links c.algo (Some item))) ≤ item.pages = item-keys-few c.algo item in
        let size : length (granules item.pages base) ≡ item.pages = length-granules item.pages base in
        let own : length (granules item.pages base) ≤ delegated entries =
        pages-taken (granules item.pages base) c.pool_base w.taken w.plan.space.start w.plan.space.tables (page_content item) number 0 in
        subst (λ (d : Listing). AreRead c w (item_links c.algo (Some item)) d.next) same (record {
          fit = item-fits c.algo item (omega arith);
          few = omega arith;
          bounded = record { protected_end = is_bounded.protected_end; pool = room };
        }))

rec-read : (c : Config) (w : Progress) (number : ℕ) (r : PlacedRec) (done : Listing) → IsBounded c w → list_rec c w number r ≡ Ok done
    → AreRead c w (rec_links c.rec_rule c.algo (Some r)) done.next
unfolding list_rec
rec-read c w number r done is_bounded at =
    let entries : List Entry = rec_entries c.pool_base w.taken c.num_aux (rec_params number r (granules c.num_aux (granule c.pool_base (w.taken + 1)))) in
    let made : Listing = record { entries = entries; next = record w { taken = w.taken + delegated entries; num_recs = w.num_recs + 1 } } in
    let checks : List (Check ListFault) = (fault.RecOrder, not (eqb number w.num_recs)) ∷ (fault.RecNotRunnable, lacks_rule c.rec_rule r) ∷ pool_check c w.taken entries ∷ [] in
    let same : made ≡ done = is-done checks made done at in
    let none : holds checks ≡ false = none-holds checks made done at in
    let room : w.taken + delegated entries ≤ c.pool_count = ltb-false c.pool_count (w.taken + delegated entries) (off-at checks 2 fault.NoMemory none) in
    subst (λ (d : Listing). AreRead c w (rec_links c.rec_rule c.algo (Some r)) d.next) same (record {
      fit = fits (extends c.rec_rule r.runnable);
      few = few (extends c.rec_rule r.runnable);
      bounded = record { protected_end = is_bounded.protected_end; pool = room };
    })
  where
    links : Bool → List Link
    links b = if b then link.Rec (record { bytes = measurement_of c.algo (rec_page_of (rec_params 0 r [])) }) ∷ [] else []

    fits : (b : Bool) → All IsFitting (links b)
    fits true = All-cons IsFitting _ [] tt (All-nil IsFitting)
    fits false = All-nil IsFitting

    few : (b : Bool) → w.taken + length (keys_of (links b)) ≤ w.taken + delegated (rec_entries c.pool_base w.taken c.num_aux (rec_params number r (granules c.num_aux (granule c.pool_base (w.taken + 1)))))
    few true = omega arith
    few false = omega arith

-- ---- steps

record IsStepRead (l : LaunchData) (p : PlacedData) (w : Progress) (st : Step) (next : Progress) : Type 0 where
  readable : IsReadable l st
  read : AreRead l.config w (step_links l p st) next

step-read : (l : LaunchData) (p : PlacedData) (w : Progress) (st : Step) (done : Listing) → IsBounded l.config w
    → list_step l p w st ≡ Ok done → IsStepRead l p w st done.next
step-read l p w (step.Ram n) done is_bounded at = record { readable = (by_region (slice_get l.ram n) at).0; read = (by_region (slice_get l.ram n) at).1 }
  where
    by_region : (o : Option Region) → list_named w (list_region l.config w) o ≡ Ok done → IsReadableRegion o × AreRead l.config w (region_links (least_level l.config) o) done.next
    by_region None h = (let made : Listing = record { entries = []; next = w } in let same : made ≡ done = cc in
        (tt, idle l.config w done.next is_bounded (ap (λ (d : Listing). d.next) same)))
    by_region (Some r) h = (let read = region-read l.config w r done is_bounded h in (read.readable, read.read))
step-read l p w (step.Item n) done is_bounded at = record { readable = tt; read = by_item (slice_get p.items n) at }
  where
    by_item : (o : Option PlacedItem) → list_named w (list_item l.config w n) o ≡ Ok done → AreRead l.config w (item_links l.config.algo o) done.next
    by_item None h = (let made : Listing = record { entries = []; next = w } in let same : made ≡ done = cc in
        idle l.config w done.next is_bounded (ap (λ (d : Listing). d.next) same))
    by_item (Some item) h = item-read l.config w n item done is_bounded h
step-read l p w (step.Rec n) done is_bounded at = record { readable = tt; read = by_rec (slice_get p.recs n) at }
  where
    by_rec : (o : Option PlacedRec) → list_named w (list_rec l.config w n) o ≡ Ok done → AreRead l.config w (rec_links l.config.rec_rule l.config.algo o) done.next
    by_rec None h = (let made : Listing = record { entries = []; next = w } in let same : made ≡ done = cc in
        idle l.config w done.next is_bounded (ap (λ (d : Listing). d.next) same))
    by_rec (Some r) h = rec-read l.config w n r done is_bounded h

-- a launch whose steps can be read, with links that fit and this many keys at most
pub record IsReadableLaunch (l : LaunchData) (p : PlacedData) (steps : List Step) (most : ℕ) : Type 0 where
  pub readable : All (IsReadable l) steps
  pub fit : All IsFitting (flat_map (step_links l p) steps)
  pub few : length (keys_of (flat_map (step_links l p) steps)) ≤ most

keys-split : (prefix back : List Link) → length (keys_of (prefix ++ back)) ≡ length (keys_of prefix) + length (keys_of back)
keys-split prefix back = ap length (flat_map-append keys_in prefix back) ∙ length-append (keys_of prefix) (keys_of back)

steps-read : (l : LaunchData) (p : PlacedData) (ss : List Step) (w : Progress) (entries : List Entry) (most : ℕ) → IsBounded l.config w
    → l.config.pool_count ≤ w.taken + most → list_steps l p w ss ≡ Ok entries → IsReadableLaunch l p ss most
unfolding list_steps
steps-read l p [] w entries most is_bounded room at = record { readable = All-nil (IsReadable l); fit = All-nil IsFitting; few = omega arith }
steps-read l p (st ∷ ss) w entries most is_bounded room at =
    let first = bound (list_step l p w st) _ entries at in
    let done : Listing = first.0 in
    let second = fronted done.entries (list_steps l p done.next ss) entries (first.2) in
    let here = step-read l p w st done is_bounded (first.1) in
    let own : ℕ = length (keys_of (step_links l p st)) in
    let few : w.taken + own ≤ done.next.taken = here.read.few in
    let pool : done.next.taken ≤ l.config.pool_count = here.read.bounded.pool in
    let rest = steps-read l p ss done.next (second.0) (most - own) here.read.bounded (omega arith) (second.1) in
    let others : length (keys_of (flat_map (step_links l p) ss)) ≤ most - own = rest.few in
    let split : length (keys_of (step_links l p st ++ flat_map (step_links l p) ss)) ≡ own + length (keys_of (flat_map (step_links l p) ss)) =
    keys-split (step_links l p st) (flat_map (step_links l p) ss) in
    record {
      readable = All-cons (IsReadable l) st ss here.readable rest.readable;
      fit = All-append IsFitting (step_links l p st) (flat_map (step_links l p) ss) here.read.fit rest.fit;
      few = omega arith;
    }

launch-readable : (l : LaunchData) (p : PlacedData) (entries : List Entry) → listed l p ≡ Ok entries
    → IsReadableLaunch l p l.steps 16777216
unfolding listed
launch-readable l p entries at =
    let c : Config = l.config in
    let checks : List (Check ListFault) = opening_checks c p.recs in
    let first = bound (unless_refused checks (opening_entries c)) _ entries at in
    let none : holds checks ≡ false = none-holds checks (opening_entries c) (first.0) (first.1) in
    let room : 0 + delegated (opening_entries c) ≤ c.pool_count = ltb-false c.pool_count (0 + delegated (opening_entries c)) (off-at checks 1 fault.NoMemory none) in
    let second = fronted (first.0) (list_steps l p (opening_progress c) l.steps) entries (first.2) in
    let low : 0 < 2 = omega arith in
    let width : c.s2sz - 1 ≤ 47 = let is : is_width c.s2sz ≡ true = c.width in let most : c.s2sz ≤ 48 = grind (arith, nat_tests) in omega arith in
    let count : c.pool_count ≤ 16777216 = c.pool_fits.1 in
    let is_bounded : IsBounded c (opening_progress c) = record { protected_end = pow-le-pow_right low width; pool = omega arith } in
    steps-read l p l.steps (opening_progress c) (second.0) 16777216 is_bounded (omega arith) (second.1)

-- the same of a launch of which it is known that it has a list
pub listed-readable : (l : LaunchData) (p : PlacedData) → IsOk (listed l p) → IsReadableLaunch l p l.steps 16777216
listed-readable l p is = let list = value-of (listed l p) is in launch-readable l p (list.0) (list.1)
  where
    value-of : {T E : Type 0} (r : Result T E) → IsOk r → (x : T) × (r ≡ Ok x)
    value-of (Ok x) = λ is. (x, refl)
    value-of (Err e) = λ is. absurd (cc)
