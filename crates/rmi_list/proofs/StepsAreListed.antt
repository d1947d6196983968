-- A step of the code makes the listing of the step's definition.
use Rattle.std.proofs.Common.{inl, inr, ◌≡◌, ℕ, zero, suc, ◌+◌, ◌*◌, ◌/◌, ◌<◌, ◌≤◌, ◌^◌, ◌∙◌, sym, refl, ap, subst, arith, true, false, not, ◌&&◌, ltb, eqb}
use Rattle.std.proofs.Common.{List, [], ◌∷◌, ◌++◌, ◌⊎◌, append_assoc, length, map}
use Rattle.std.specs.Prelude.{Ok, Err, Option, Some, None, Result, nat_lt, slice_index_or}
use Rattle.std.specs.List.{slice_get}
use Rattle.std.proofs.lemmas.Bool.Decides.{nat_tests}
use Rattle.std.proofs.lemmas.List.{append-nil}
use Rattle.std.proofs.lemmas.Option.{slice_get-get_or}
use Rattle.refusal.specs.Checks.{Check, unless_refused}
use Rattle.rim_desc.specs.Rec.{RecData}
use Rattle.rim_desc.specs.declared.command.Command.TheVariants.{Delegate, RecCreate}
use Rattle.std.proofs.lemmas.Bool.{cases_Bool}
use Rattle.rmm_model.specs.Blocks.{granules, span}
use Rattle.rmm_model.specs.declared.table.Table.{Table}
use Rattle.rtt_plan.specs.Missing.{missing, page_acts, put_page, table_act}
use Rattle.rtt_plan.specs.Planned.{AgreesWith, Planned, after_data, after_region, data_acts, data_checks, plan_data, plan_region, region_acts, region_checks}
use Rattle.rtt_plan.specs.Runs.{runs_of}
use Rattle.rtt_plan.specs.declared.act.Act.{Act}
use Rattle.rtt_plan.specs.declared.act.Act.TheVariants as act
use Rattle.rtt_plan.specs.declared.fault.PlanFault.{PlanFault}
use Rattle.rtt_plan.specs.declared.fault.PlanFault.TheVariants as plan
use Rattle.rtt_plan.proofs.PlansGoOnAlike.{agrees-refl}
use Rattle.list_model.specs.declared.content.PageContent.{PageContent}
use Rattle.list_model.specs.Entries.{Entry, Whole, delegate_all, delegated, granule, item_entries, rec_entries, region_entries}
use Rattle.list_model.specs.inside.Acts.{act_entries}
use Rattle.list_model.proofs.EntriesOfActs.{acts-of-pages, acts-of-runs}
use Rattle.list_model.proofs.GranulesOfEntries.{count-append}
use Rattle.rim_launch.specs.declared.config.Config.{Config}
use Rattle.rim_launch.specs.declared.item.Region.{Region}
use Rattle.ipa_layout.specs.declared.placed.PlacedItem.{PlacedItem}
use Rattle.ipa_layout.specs.declared.reason.IpaRange.{IpaRange}
use Rattle.ipa_layout.specs.declared.rec.PlacedRec.{PlacedRec}
use Rattle.rmi_list.specs.declared.draft.Draft.{Draft}
use Rattle.rmi_list.specs.declared.fault.ListFault.{ListFault}
use Rattle.rmi_list.specs.declared.fault.ListFault.TheVariants as fault
use Rattle.rmi_list.specs.declared.reason.StepReason.TheVariants as step_reason
use Rattle.rmi_list.specs.declared.step_fault.StepFault.{StepFault}
use Rattle.rmi_list.specs.Listed.{lacks_rule, Listing, list_item, list_named, list_rec, list_region, plan_checks, pool_check}
use Rattle.rmi_list.specs.Reason.{item_range, region_range}
use Rattle.rmi_list.specs.Measured.{page_base, page_content}
use Rattle.rmi_list.specs.RecParams.{rec_params}
use Rattle.rmi_list.specs.inside.Acts.{HaveRoom}
use Rattle.rmi_list.specs.declared.span.Span.TheVariants as span
use Rattle.rmi_list.specs.inside.Spans.{rec_entry}
use Rattle.rmi_list.specs.inside.Drafts.{Continues, Grows, InPool, Lists, Makes, Refuses, entries_in, span_in, progress_of}
use Rattle.rmi_list.specs.inside.Steps.{IsStepFault, plan_fault}
use Rattle.rmi_list.proofs.CheckAfterCheck.{is-done, passed-front, plan-refused, refused-front}
use Rattle.rmi_list.proofs.EntryByEntry.{pool_of}

-- ---- room for the pages of an item

pub no-room : (acts : List Act) (k : ℕ) → HaveRoom None k acts
unfolding HaveRoom
no-room [] k = tt
no-room (a ∷ acts) k = (tt, no-room acts (k + 0))

tables-room : (item : PageContent × ℕ) (k : ℕ) (ts : List Table) (acts : List Act) → HaveRoom (Some item) k acts
    → HaveRoom (Some item) k (map table_act ts ++ acts)
unfolding HaveRoom
tables-room item k [] acts room = room
tables-room item k (t ∷ ts) acts room = let e : k + 0 ≡ k = omega arith in (tt, rw e (tables-room item k ts acts room))

room-put : (item : PageContent × ℕ) (k x : ℕ) (acts : List Act) → k + 1 ≤ 2 ^ 32 → x + 4096 ≤ 2 ^ 47 → HaveRoom (Some item) (k + 1) acts
    → HaveRoom (Some item) k (put_page x acts)
unfolding HaveRoom
room-put item k x [] few low room = ((omega arith, omega arith), room)
room-put item k x (act.Table base level ∷ acts) few low room = ((omega arith, omega arith), room)
room-put item k x (act.Run base top level ∷ acts) few low room = ((omega arith, omega arith), room)
room-put item k x (act.Pages base count ∷ acts) few low room = elim (cases_Bool (eqb base (x + 4096) && eqb (base / span 3) (x / span 3))) [
  | inl t ↦ rw t
      (let e : base ≡ x + 4096 = grind (arith, nat_tests) in
      let here : (k + 1 + count ≤ 2 ^ 32) × (base + 4096 * count ≤ 2 ^ 47) = room.0 in
      let number : k + 1 + count ≤ 2 ^ 32 = here.0 in
      let address : base + 4096 * count ≤ 2 ^ 47 = here.1 in
      let f : k + suc count ≡ k + 1 + count = omega arith in
      ((omega arith, omega arith), rw f (room.1)))
  | inr f ↦ rw f ((omega arith, omega arith), room)
]

pub pages-room : (item : PageContent × ℕ) (start count k x : ℕ) (ts : List Table) → k + count ≤ 2 ^ 32 → x + 4096 * count ≤ 2 ^ 47
    → HaveRoom (Some item) k (page_acts start ts (granules count x))
unfolding HaveRoom page_acts granules
pages-room item start zero k x ts few low = tt
pages-room item start (suc count) k x ts few low =
    let new : List Table = missing start ts 3 x in
    let rest : List Act = page_acts start (ts ++ new) (granules count (x + 4096)) in
    tables-room item k new (put_page x rest)
    (room-put item k x rest (omega arith) (omega arith) (pages-room item start count (k + 1) (x + 4096) (ts ++ new) (omega arith) (omega arith)))

-- ---- what a step lists

-- entries, after which the plan is this one
abbrev listing : Draft → Planned → List Entry → Listing
listing old plan es = record { entries = es; next = record (progress_of old) { plan = plan; taken = old.taken + delegated es } }

abbrev nothing : Draft → Listing
nothing old = record { entries = []; next = progress_of old }

makes-nothing : (old : Draft) → InPool old → Makes old old (nothing old)
makes-nothing old within = record {
  launch = refl;
  config = refl;
  placed = refl;
  entries = sym (append-nil (entries_in old));
  taken = omega arith;
  progress = record { plan = agrees-refl old.tables; taken = refl; num_recs = refl };
  pool = within;
  spans = λ all. all;
}

-- ---- a step that the planner takes

-- the planner has passed its checks, and the list goes on from what was planned
planned-continues : {A U : Type 0} (old new : Draft) (extent : Option IpaRange) (t after : Planned) (checks : List (Check PlanFault)) (a ok : A)
    (es : List Entry) (result : Result U StepFault) → InPool old
    → unless_refused checks a ≡ Ok ok → AgreesWith t after → Lists (record old { tables = t }) new result es
    → Continues old new extent result (unless_refused (plan_checks checks ++ pool_check old.config old.taken es ∷ []) (listing old after es))
planned-continues old new extent t after checks a ok es (Ok u) within passed agrees grows =
    let made = listing old after es in
    let size : InPool new = grows.pool within in
    let taken : new.taken ≡ old.taken + delegated es = grows.taken in
    let pool : new.config.pool_count ≡ old.config.pool_count = ap (λ (c : Config). c.pool_count) grows.config in
    let off : nat_lt old.config.pool_count (old.taken + delegated es) ≡ false = grind (arith, nat_tests) in (
      made,
      passed-front checks a ok (pool_check old.config old.taken es ∷ []) made passed ∙ rw off refl,
      record {
        launch = grows.launch;
        config = grows.config;
        placed = grows.placed;
        entries = grows.entries;
        taken = grows.taken;
        progress = record { plan = rw grows.tables agrees; taken = grows.taken; num_recs = grows.num_recs };
        pool = size;
        spans = grows.spans;
      },
    )
planned-continues old new extent t after checks a ok es (Err e) within passed agrees (inl memory) = inl memory
planned-continues old new extent t after checks a ok es (Err e) within passed agrees (inr full) =
    let made = listing old after es in
    let small : old.config.pool_count < old.taken + delegated es = full.1 in
    let on : nat_lt old.config.pool_count (old.taken + delegated es) ≡ true = grind (arith, nat_tests) in
    inr (step_reason.PoolEnd, full.0, passed-front checks a ok (pool_check old.config old.taken es ∷ []) made passed ∙ rw on refl, tt)

-- ---- regions

pub region-continues : {U : Type 0} (old new : Draft) (t : Planned) (r : Region) (acts : List Act) (result : Result U StepFault) → InPool old
    → plan_region old.tables r.base r.end ≡ Ok acts → AgreesWith t (after_region old.tables r.base r.end)
    → Lists (record old { tables = t }) new result (act_entries (pool_of old) old.taken None 0 acts)
    → Continues old new (Some (region_range r)) result (list_region old.config (progress_of old) r)
unfolding plan_region list_region
region-continues old new t r acts result within planned agrees lists =
    let p : Planned = old.tables in
    let same : region_acts p r.base r.end ≡ acts = is-done (region_checks p r.base r.end) (region_acts p r.base r.end) acts planned in
    let es : List Entry = region_entries (pool_of old) old.taken p r.base r.end in
    let listed : act_entries (pool_of old) old.taken None 0 acts ≡ es =
    ap (act_entries (pool_of old) old.taken None 0) (sym same)
    ∙ acts-of-runs (pool_of old) p.space.start None 0 (runs_of r.base r.end p.least_level) old.taken p.space.tables in
    planned-continues old new (Some (region_range r)) t (after_region p r.base r.end) (region_checks p r.base r.end)
    (region_acts p r.base r.end) acts es result within planned agrees
    (subst (Lists (record old { tables = t }) new result) listed lists)

pub region-refused : (old : Draft) (r : Region) (e : PlanFault) → (e ≡ plan.NoMemory) ⊎ (plan_region old.tables r.base r.end ≡ Err e)
    → IsStepFault (Some (region_range r)) old.num_recs (plan_fault e (region_range r)) (list_region old.config (progress_of old) r)
unfolding plan_region list_region
region-refused old r e h =
    let c : Config = old.config in
    let es : List Entry = region_entries c.pool_base old.taken old.tables r.base r.end in
    let made : Listing = listing old (after_region old.tables r.base r.end) es in
    plan-refused e (region_range r) old.num_recs (plan_region old.tables r.base r.end) (list_region c (progress_of old) r)
    (refused-front (region_checks old.tables r.base r.end) (region_acts old.tables r.base r.end) e (pool_check c old.taken es ∷ []) made) h

-- ---- items

pub item-continues : {U : Type 0} (old new : Draft) (t : Planned) (number : ℕ) (item : PlacedItem) (acts : List Act) (result : Result U StepFault) → InPool old
    → eqb item.pages 0 ≡ false → plan_data old.tables (page_base item) item.pages ≡ Ok acts → AgreesWith t (after_data old.tables (page_base item) item.pages)
    → Lists (record old { tables = t }) new result (act_entries (pool_of old) old.taken (Some (page_content item, number)) 0 acts)
    → Continues old new (Some (item_range item)) result (list_item old.config (progress_of old) number item)
unfolding plan_data list_item
item-continues old new t number item acts result within some planned agrees lists =
    let p : Planned = old.tables in
    let base : ℕ = page_base item in
    let same : data_acts p base item.pages ≡ acts = is-done (data_checks p base item.pages) (data_acts p base item.pages) acts planned in
    let es : List Entry = item_entries (pool_of old) old.taken p (page_content item) number base item.pages in
    let listed : act_entries (pool_of old) old.taken (Some (page_content item, number)) 0 acts ≡ es =
    ap (act_entries (pool_of old) old.taken (Some (page_content item, number)) 0) (sym same)
    ∙ acts-of-pages (pool_of old) p.space.start (page_content item) number (granules item.pages base) 0 old.taken p.space.tables in
    rw some (planned-continues old new (Some (item_range item)) t (after_data p base item.pages) (data_checks p base item.pages)
    (data_acts p base item.pages) acts es result within planned agrees
    (subst (Lists (record old { tables = t }) new result) listed lists))

pub item-refused : (old : Draft) (number : ℕ) (item : PlacedItem) (e : PlanFault) → eqb item.pages 0 ≡ false
    → (e ≡ plan.NoMemory) ⊎ (plan_data old.tables (page_base item) item.pages ≡ Err e)
    → IsStepFault (Some (item_range item)) old.num_recs (plan_fault e (item_range item)) (list_item old.config (progress_of old) number item)
unfolding plan_data list_item
item-refused old number item e some h =
    let c : Config = old.config in
    let base : ℕ = page_base item in
    let es : List Entry = item_entries c.pool_base old.taken old.tables (page_content item) number base item.pages in
    let made : Listing = listing old (after_data old.tables base item.pages) es in
    let last : List (Check ListFault) = pool_check c old.taken es ∷ [] in
    rw some (plan-refused e (item_range item) old.num_recs (plan_data old.tables base item.pages)
    (unless_refused (plan_checks (data_checks old.tables base item.pages) ++ last) made)
    (refused-front (data_checks old.tables base item.pages) (data_acts old.tables base item.pages) e last made) h)

pub item-idle : (old : Draft) (number : ℕ) (item : PlacedItem) → InPool old → eqb item.pages 0 ≡ true
    → (done : Listing) × (list_item old.config (progress_of old) number item ≡ Ok done) × Makes old old done
unfolding list_item
item-idle old number item within none = rw none (nothing old, refl, makes-nothing old within)

-- ---- RECs

pub grows-then : (a b d : Draft) (es fs : List Entry) → Grows a b es → Grows b d fs → Grows a d (es ++ fs)
grows-then a b d es fs first second =
    let count : delegated (es ++ fs) ≡ delegated es + delegated fs = count-append es fs in
    let one : b.taken ≡ a.taken + delegated es = first.taken in
    let two : d.taken ≡ b.taken + delegated fs = second.taken in
    record {
      launch = second.launch ∙ first.launch;
      config = second.config ∙ first.config;
      placed = second.placed ∙ first.placed;
      tables = second.tables ∙ first.tables;
      num_recs = second.num_recs ∙ first.num_recs;
      entries = second.entries ∙ ap (λ xs. xs ++ fs) first.entries ∙ append_assoc (entries_in a) es fs;
      taken = omega arith;
      pool = λ within. second.pool (first.pool within);
      spans = λ all. second.spans (first.spans all);
    }

-- what is refused for a part of some entries is refused for all of them
pub refused-first : (a : Draft) (e : StepFault) (es fs : List Entry) → Refuses a e es → Refuses a e (es ++ fs)
refused-first a e es fs (inl memory) = inl memory
refused-first a e es fs (inr full) =
    let count : delegated (es ++ fs) ≡ delegated es + delegated fs = count-append es fs in
    let small : a.config.pool_count < a.taken + delegated es = full.1 in
    inr (full.0, omega arith)

pub refused-later : (a b : Draft) (e : StepFault) (es fs : List Entry) → Grows a b es → Refuses b e fs → Refuses a e (es ++ fs)
refused-later a b e es fs grows (inl memory) = inl memory
refused-later a b e es fs grows (inr full) =
    let count : delegated (es ++ fs) ≡ delegated es + delegated fs = count-append es fs in
    let more : b.taken ≡ a.taken + delegated es = grows.taken in
    let size : b.config.pool_count ≡ a.config.pool_count = ap (λ (c : Config). c.pool_count) grows.config in
    let small : b.config.pool_count < b.taken + delegated fs = full.1 in
    inr (full.0, omega arith)

-- the entries of a REC, as they are listed: its own granule, the others, and the REC
abbrev pub own_granule : Draft → List Entry
own_granule old = Whole (Delegate (granule (pool_of old) old.taken)) ∷ []

abbrev pub aux_granules : Draft → List Entry
aux_granules old = delegate_all (granules old.config.num_aux (granule (pool_of old) (old.taken + 1)))

abbrev pub params_at : Draft → ℕ → PlacedRec → RecData
params_at old number r = rec_params number r (granules old.config.num_aux (granule (pool_of old) (old.taken + 1)))

abbrev pub rec_itself : Draft → ℕ → PlacedRec → List Entry
rec_itself old number r = Whole (RecCreate (granule (pool_of old) old.taken) (params_at old number r)) ∷ []

abbrev all_of_rec : Draft → ℕ → PlacedRec → List Entry
all_of_rec old number r = rec_entries (pool_of old) old.taken old.config.num_aux (params_at old number r)

rec-split : (old : Draft) (number : ℕ) (r : PlacedRec) → all_of_rec old number r ≡ own_granule old ++ (aux_granules old ++ rec_itself old number r)
unfolding granules
rec-split old number r =
    let e : old.config.num_aux + 1 ≡ suc old.config.num_aux = omega arith in
    let f : granule (pool_of old) (old.taken + 1) ≡ granule (pool_of old) old.taken + 4096 = omega arith in
    rw (e, f) refl

order-off : (number num_recs : ℕ) → number ≡ num_recs → not (eqb number num_recs) ≡ false
order-off number num_recs e = grind (arith, nat_tests)

order-on : (number num_recs : ℕ) → (number ≡ num_recs → ⊥) → not (eqb number num_recs) ≡ true
order-on number num_recs e = grind (arith, nat_tests)

pub rec-out-of-order : (old : Draft) (number : ℕ) (r : PlacedRec) → (number ≡ old.num_recs → ⊥)
    → list_rec old.config (progress_of old) number r ≡ Err fault.RecOrder
unfolding list_rec
rec-out-of-order old number r other = rw (order-on number old.num_recs other) refl

pub rec-not-runnable : (old : Draft) (number : ℕ) (r : PlacedRec) → number ≡ old.num_recs → lacks_rule old.config.rec_rule r ≡ true
    → list_rec old.config (progress_of old) number r ≡ Err fault.RecNotRunnable
unfolding list_rec
rec-not-runnable old number r order off = rw (order-off number old.num_recs order, off) refl

-- a REC of which some granule is refused
pub rec-refused : (old : Draft) (number : ℕ) (r : PlacedRec) (e : StepFault) → number ≡ old.num_recs → lacks_rule old.config.rec_rule r ≡ false
    → Refuses old e (own_granule old ++ (aux_granules old ++ rec_itself old number r))
    → IsStepFault None old.num_recs e (list_rec old.config (progress_of old) number r)
unfolding list_rec
rec-refused old number r e order on (inl memory) = inl memory
rec-refused old number r e order on (inr full) =
    let small : old.config.pool_count < old.taken + delegated (own_granule old ++ (aux_granules old ++ rec_itself old number r)) = full.1 in
    let over : old.config.pool_count < old.taken + delegated (all_of_rec old number r) = rw (rec-split old number r) small in
    let test : nat_lt old.config.pool_count (old.taken + delegated (all_of_rec old number r)) ≡ true = grind (arith, nat_tests) in
    inr (step_reason.PoolEnd, full.0, rw (order-off number old.num_recs order) (rw test (rw on refl)), tt)

-- a REC that is listed
pub rec-makes : (old new : Draft) (number : ℕ) (r : PlacedRec) → InPool old → number ≡ old.num_recs → lacks_rule old.config.rec_rule r ≡ false
    → Grows old new (own_granule old ++ (aux_granules old ++ rec_itself old number r))
    → (done : Listing) × (list_rec old.config (progress_of old) number r ≡ Ok done) × Makes old (record new { num_recs = new.num_recs + 1 }) done
unfolding list_rec
rec-makes old new number r within order on grown =
    let es : List Entry = all_of_rec old number r in
    let grows : Grows old new es = rw (rec-split old number r) grown in
    let made : Listing = record { entries = es; next = record (progress_of old) { taken = old.taken + delegated es; num_recs = old.num_recs + 1 } } in
    let size : InPool new = grows.pool within in
    let taken : new.taken ≡ old.taken + delegated es = grows.taken in
    let pool : new.config.pool_count ≡ old.config.pool_count = ap (λ (c : Config). c.pool_count) grows.config in
    let off : nat_lt old.config.pool_count (old.taken + delegated es) ≡ false = grind (arith, nat_tests) in (
      made,
      rw (order-off number old.num_recs order) (rw off (rw on refl)),
      record {
        launch = grows.launch;
        config = grows.config;
        placed = grows.placed;
        entries = grows.entries;
        taken = grows.taken;
        progress = record { plan = rw grows.tables (agrees-refl old.tables); taken = grows.taken; num_recs = ap (λ (n : ℕ). n + 1) grows.num_recs };
        pool = size;
        spans = grows.spans;
      },
    )

-- the auxiliary granules come after the REC's own
pub aux-same : (old now : Draft) → Grows old now (own_granule old)
    → delegate_all (granules now.config.num_aux (granule (pool_of now) now.taken)) ≡ aux_granules old
aux-same old now grows =
    ap (λ (c : Config). delegate_all (granules c.num_aux (granule c.pool_base now.taken))) grows.config
    ∙ ap (λ (t : ℕ). delegate_all (granules old.config.num_aux (granule (pool_of old) t))) grows.taken

named-rec : (pool num_aux n number : ℕ) (o : Option PlacedRec) (r : PlacedRec) → o ≡ Some r
    → rec_entry pool num_aux n number o ≡ Whole (RecCreate (granule pool n) (rec_params number r (granules num_aux (granule pool (n + 1)))))
named-rec pool num_aux n number o r at = rw at refl

-- the REC itself, by its number among the launch's RECs
pub rec-same : (old now : Draft) (n number : ℕ) (r : PlacedRec) → now.config ≡ old.config → now.placed ≡ old.placed → n ≡ old.taken
    → slice_get old.placed.now.recs number ≡ Some r → span_in now (span.RecCreate n number) ≡ rec_itself old number r
rec-same old now n number r config placed at own =
    let found : slice_get now.placed.now.recs number ≡ Some r = ap (λ (p : _). slice_get p.now.recs number) placed ∙ own in
    let by_number = named-rec (pool_of now) now.config.num_aux n number (slice_get now.placed.now.recs number) r found in
    ap (λ e. e ∷ []) (by_number ∙ ap (λ (c : Config). entry c n) config ∙ ap (entry old.config) at)
  where
    entry : Config → ℕ → Entry
    entry c m = Whole (RecCreate (granule c.pool_base m) (rec_params number r (granules c.num_aux (granule c.pool_base (m + 1)))))

-- ---- steps that name nothing

pub nothing-named : {A : Type 0} (old : Draft) (list : A → Result Listing ListFault) (o : Option A) → InPool old → o ≡ None
    → (done : Listing) × (list_named (progress_of old) list o ≡ Ok done) × Makes old old done
nothing-named old list o within none = rw none (nothing old, refl, makes-nothing old within)

-- what a number names, as a look-up found it
pub found-at : {A : Type 0} (xs ys : List A) (i : ℕ) (x d : A) → ys ≡ xs → true ≡ ltb i (length ys) → x ≡ slice_index_or ys i d → slice_get xs i ≡ Some x
found-at xs ys i x d same within at =
    let inside : i < length ys = grind (arith, nat_tests) in
    ap (λ zs. slice_get zs i) (sym same) ∙ slice_get-get_or ys i d inside ∙ ap (λ y. Some y) (sym at)
