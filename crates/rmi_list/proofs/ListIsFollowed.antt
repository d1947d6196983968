-- The monitor follows the list of a launch, step by step.
use Rattle.std.proofs.Common.{inl, inr, ◌≡◌, ℕ, ◌+◌, ◌%◌, ◌<◌, ◌≤◌, ◌∙◌, sym, refl, ap, subst, arith, Bool, true, false, cond, not, ◌&&◌, eqb, List, [], ◌∷◌}
use Rattle.std.proofs.Common.{◌++◌, length}
use Rattle.std.specs.Prelude.{Option, Ok, None, Some, nat_lt, is_some, option_map, if◌then◌else◌, Result}
use Rattle.std.specs.List.{flat_map, slice_get}
use Rattle.std.proofs.lemmas.Bool.{cases_Bool, eqb-true, not-false}
use Rattle.std.proofs.lemmas.Bool.Decides.{nat_tests}
use Rattle.std.proofs.lemmas.List.{map-append}
use Rattle.std.proofs.lemmas.Option.{slice_get_within}
use Rattle.refusal.specs.Checks.{Check, unless_refused}
use Rattle.rim_desc.specs.Rule.{extends}
use Rattle.rim_desc.specs.declared.rule.RecRule.{RecRule}
use Rattle.rmm_model.specs.Checks.{has_bad_flags}
use Rattle.rmm_model.specs.Effects.{is_runnable}
use Rattle.rim_desc.specs.Part.{Part, Realm, Rec, rim_of}
use Rattle.rim_desc.specs.Realm.{realm_page_of}
use Rattle.rim_desc.specs.Rec.{RecData, rec_mpidr_of, rec_page_of}
use Rattle.rim_desc.specs.Measurement.{measurement_of}
use Rattle.rim_desc.specs.declared.command.Command.{Command}
use Rattle.rim_desc.specs.declared.command.Command.TheVariants.{Activate}
use Rattle.rim_desc.specs.declared.realm.RealmParams.{RealmParams}
use Rattle.rmm_model.specs.Blocks.{granules}
use Rattle.rmm_model.specs.Start.{start_count}
use Rattle.rmm_model.specs.State.{State, empty_state}
use Rattle.rmm_model.specs.Effects.{changed}
use Rattle.rmm_model.specs.Step.{step}
use Rattle.rmm_model.specs.Run.{accepted, run, shown}
use Rattle.rmm_model.proofs.AnswersOfChecks.{holds, none-holds, off-at}
use Rattle.rmm_model.proofs.RimOfShownParts.{rim-run}
use Rattle.rmm_model.proofs.ListAfterList.{accepted-append, accepted-taken, run-append, run-taken, shown-append, shown-taken}
use Rattle.rmm_model.proofs.CommandsTaken.{activate-taken}
use Rattle.rmm_model.proofs.NoGranuleTwice.{accepted-once}
use Rattle.rtt_plan.specs.Planned.{IsPlanned, after_data, after_region, data_checks, region_checks}
use Rattle.rtt_plan.proofs.AcceptedCalls.{data-accepted, region-accepted}
use Rattle.rtt_plan.proofs.PlansStayFormed.{planned-data, planned-nothing, planned-region}
use Rattle.list_model.specs.declared.content.PageContent.{PageContent}
use Rattle.list_model.specs.declared.content.PageContent.TheVariants.{Measured, Unmeasured, Unknown}
use Rattle.list_model.specs.Entries.{Contents, Entry, Whole, command_of, commands_of, delegate_all, delegated, granule, item_entries, rec_entries, rec_granules}
use Rattle.list_model.specs.Entries.{region_entries}
use Rattle.list_model.specs.Leading.{Build, Built, IsBuilt, IsNextRec, planned}
use Rattle.list_model.specs.Parts.{AreContents, block_parts, page_parts}
use Rattle.list_model.proofs.GranulesOfEntries.{count-all, count-append}
use Rattle.list_model.proofs.RealmAndRecsCreated.{realm-leads, rec-leads}
use Rattle.list_model.proofs.RegionsAndItemsLead.{item-leads, region-leads}
use Rattle.rim_launch.specs.LaunchData.{LaunchData}
use Rattle.rim_launch.specs.Realm.{realm_params}
use Rattle.rim_launch.specs.declared.config.Config.{Config}
use Rattle.rim_launch.specs.declared.item.Region.{Region}
use Rattle.rim_launch.specs.declared.step.Step.{Step}
use Rattle.rim_launch.specs.declared.step.Step.TheVariants as step
use Rattle.ipa_layout.specs.Layout.{PlacedData}
use Rattle.ipa_layout.specs.declared.placed.PlacedItem.{PlacedItem}
use Rattle.ipa_layout.specs.declared.rec.PlacedRec.{PlacedRec}
use Rattle.rmi_list.specs.declared.fault.ListFault.{ListFault}
use Rattle.rmi_list.specs.declared.fault.ListFault.TheVariants as fault
use Rattle.rmi_list.specs.Following.{IsFollowed}
use Rattle.rmi_list.specs.Listed.{lacks_rule, Listing, Progress, list_item, list_named, list_rec, list_region, list_step, list_steps, listed, opening_progress}
use Rattle.rmi_list.specs.Listed.{opening_checks, opening_entries, plan_checks, pool_check}
use Rattle.rmi_list.specs.Measured.{least_level, measured, of_named, page_base, page_content, rec_parts_of, step_parts}
use Rattle.rmi_list.specs.RecParams.{rec_params}
use Rattle.rmi_list.proofs.CheckAfterCheck.{bound, fronted, is-done, plan-off}
use Rattle.rmi_list.proofs.ParametersAreTaken.{good-realm}
use Rattle.rim_desc.specs.declared.rec.TheConstants.{REC_LIMIT}

-- ---- what was listed is built

abbrev build_of : Config → Build
build_of c = record { params = realm_params c; num_aux = c.num_aux; rule = c.rec_rule; pool = c.pool_base }

abbrev built_of : Progress → Built
built_of w = planned w.plan w.taken w.num_recs

record IsListed (c : Config) (w : Progress) (s : State) : Type 0 where
  built : IsBuilt (build_of c) (built_of w) s
  planned : IsPlanned w.plan
  least : w.plan.least_level ≡ least_level c

-- commands are all taken, measure these parts, and lead to where so much was listed
record Follows (c : Config) (s : State) (cs : List Command) (ps : List Part) (w : Progress) : Type 0 where
  accepted : accepted s cs ≡ true
  shown : shown s cs ≡ ps
  listed : IsListed c w (run s cs)

nothing-follows : (c : Config) (s : State) (w : Progress) → IsListed c w s → Follows c s [] [] w
unfolding accepted shown run
nothing-follows c s w is_listed = record { accepted = refl; shown = refl; listed = is_listed }

-- where nothing is listed
idle-follows : (c : Config) (contents : Contents) (s : State) (w : Progress) (done : Listing) → IsListed c w s
    → (let idle : Listing = record { entries = []; next = w } in idle) ≡ done → Follows c s (commands_of contents done.entries) [] done.next
idle-follows c contents s w done is_listed same =
    subst (λ (d : Listing). Follows c s (commands_of contents d.entries) [] d.next) same (nothing-follows c s w is_listed)

-- what a number names is listed, and nothing where it names nothing
named-follows : {A : Type 0} (c : Config) (contents : Contents) (s : State) (w : Progress) (list : A → Result Listing ListFault) (parts : A → List Part)
    (o : Option A) (done : Listing) → IsListed c w s
    → ((x : A) → o ≡ Some x → list x ≡ Ok done → Follows c s (commands_of contents done.entries) (parts x) done.next)
    → list_named w list o ≡ Ok done → Follows c s (commands_of contents done.entries) (of_named parts o) done.next
named-follows c contents s w list parts None done is_listed each at = idle-follows c contents s w done is_listed cc
named-follows c contents s w list parts (Some x) done is_listed each at = each x refl at

-- ---- steps

region-follows : (c : Config) (contents : Contents) (s : State) (w : Progress) (r : Region) (done : Listing) → IsListed c w s
    → list_region c w r ≡ Ok done → Follows c s (commands_of contents done.entries) (block_parts r.base r.end (least_level c)) done.next
unfolding list_region
region-follows c contents s w r done is_listed at =
    let entries : List Entry = region_entries c.pool_base w.taken w.plan r.base r.end in
    let made : Listing = record { entries = entries; next = record w { plan = after_region w.plan r.base r.end; taken = w.taken + delegated entries } } in
    let last : List (Check ListFault) = pool_check c w.taken entries ∷ [] in
    let checks : List (Check ListFault) = plan_checks (region_checks w.plan r.base r.end) ++ last in
    let same : made ≡ done = is-done checks made done at in
    let off : holds (region_checks w.plan r.base r.end) ≡ false = plan-off (region_checks w.plan r.base r.end) last (none-holds checks made done at) in
    let accepts = region-accepted w.plan r.base r.end off in
    let led = region-leads contents (build_of c) w.plan w.taken w.num_recs r.base r.end s is_listed.built is_listed.planned r.ordered accepts in
    subst (λ (d : Listing). Follows c s (commands_of contents d.entries) (block_parts r.base r.end (least_level c)) d.next) same (record {
      accepted = led.accepted;
      shown = led.shown ∙ ap (block_parts r.base r.end) is_listed.least;
      listed = record { built = led.built; planned = planned-region w.plan r.base r.end is_listed.planned accepts.whole r.ordered; least = is_listed.least };
    })

-- no pages have no parts
no-parts : (content : PageContent) (contents : Contents) (item base : ℕ) → page_parts content contents item base 0 ≡ []
no-parts Measured contents item base = refl
no-parts Unmeasured contents item base = refl
no-parts Unknown contents item base = refl

item-follows : (c : Config) (contents : Contents) (s : State) (w : Progress) (number : ℕ) (item : PlacedItem) (done : Listing) → IsListed c w s
    → AreContents c.algo contents → list_item c w number item ≡ Ok done
    → Follows c s (commands_of contents done.entries) (page_parts (page_content item) contents number (page_base item) item.pages) done.next
unfolding list_item
item-follows c contents s w number item done is_listed good = elim (cases_Bool (eqb item.pages 0)) [
  | inl none ↦ rw none (λ at.
      (let no_pages : item.pages ≡ 0 = eqb-true item.pages 0 none in
      rw (no_pages, no-parts (page_content item) contents number (page_base item)) (idle-follows c contents s w done is_listed cc)))
  | inr some ↦ rw some (λ at.
      (let base : ℕ = page_base item in
      let entries : List Entry = item_entries c.pool_base w.taken w.plan (page_content item) number base item.pages in
      let made : Listing = record { entries = entries; next = record w { plan = after_data w.plan base item.pages; taken = w.taken + delegated entries } } in
      let last : List (Check ListFault) = pool_check c w.taken entries ∷ [] in
      let checks : List (Check ListFault) = plan_checks (data_checks w.plan base item.pages) ++ last in
      let same : made ≡ done = is-done checks made done at in
      let off : holds (data_checks w.plan base item.pages) ≡ false = plan-off (data_checks w.plan base item.pages) last (none-holds checks made done at) in
      let accepts = data-accepted w.plan base item.pages off in
      let led =
      item-leads contents (build_of c) w.plan w.taken w.num_recs
      (page_content item) number base item.pages s is_listed.built is_listed.planned good accepts in
      subst (λ (d : Listing). Follows c s (commands_of contents d.entries) (page_parts (page_content item) contents number base item.pages) d.next) same
      (record {
        accepted = led.accepted;
        shown = led.shown;
        listed = record { built = led.built; planned = planned-data w.plan base item.pages is_listed.planned accepts.in_ram; least = is_listed.least };
      })))
]

abbrev flag_of : Bool → ℕ
flag_of runnable = cond runnable 1 0

-- the flags of a REC are such as the rule allows
flags-fine : (rule : Option RecRule) (b : Bool) → (not b && not (is_some rule)) ≡ false → has_bad_flags rule (flag_of b) ≡ false
flags-fine None true h = refl
flags-fine None false h = absurd (cc)
flags-fine (Some rule) true h = refl
flags-fine (Some rule) false h = refl

-- auxiliary granules are not measured
same-page : (number : ℕ) (r : PlacedRec) (aux : List ℕ) → rec_page_of (rec_params number r aux) ≡ rec_page_of (rec_params number r [])
unfolding rec_page_of
same-page number r aux = refl

rec-follows : (c : Config) (contents : Contents) (s : State) (w : Progress) (number : ℕ) (r : PlacedRec) (done : Listing) → IsListed c w s → number < 512
    → list_rec c w number r ≡ Ok done → Follows c s (commands_of contents done.entries) (rec_parts_of c number r) done.next
unfolding list_rec
rec-follows c contents s w number r done is_listed few at =
    let params : RecData = rec_params number r (granules c.num_aux (granule c.pool_base (w.taken + 1))) in
    let entries : List Entry = rec_entries c.pool_base w.taken c.num_aux params in
    let made : Listing = record { entries = entries; next = record w { taken = w.taken + delegated entries; num_recs = w.num_recs + 1 } } in
    let checks : List (Check ListFault) =
    (fault.RecOrder, not (eqb number w.num_recs)) ∷ (fault.RecNotRunnable, lacks_rule c.rec_rule r) ∷ pool_check c w.taken entries ∷ [] in
    let same : made ≡ done = is-done checks made done at in
    let off : holds checks ≡ false = none-holds checks made done at in
    let order : number ≡ w.num_recs = eqb-true number w.num_recs (not-false (eqb number w.num_recs) (off-at checks 0 fault.NoMemory off)) in
    let next : IsNextRec (build_of c) (built_of w) params = record {
      flags = flags-fine c.rec_rule r.runnable (off-at checks 1 fault.NoMemory off);
      number = ap rec_mpidr_of order;
      few = omega arith;
      aux = refl;
    } in
    let led = rec-leads contents (build_of c) (built_of w) s params is_listed.built next in
    let own : delegated (delegate_all (rec_granules c.pool_base w.taken c.num_aux)) ≡ c.num_aux + 1 = count-all (c.num_aux + 1) (granule c.pool_base w.taken) in
    let count : delegated entries ≡ c.num_aux + 1 = count-append (delegate_all (rec_granules c.pool_base w.taken c.num_aux)) _ ∙ omega arith in
    subst (λ (d : Listing). Follows c s (commands_of contents d.entries) (rec_parts_of c number r) d.next) same (record {
      accepted = led.accepted;
      shown =
          led.shown ∙ ap (λ page. if extends c.rec_rule (is_runnable (flag_of r.runnable)) then Rec (measurement_of c.algo page) ∷ [] else [])
          (same-page number r params.aux);
      listed = record { built = rw count led.built; planned = is_listed.planned; least = is_listed.least };
    })

step-follows : (l : LaunchData) (p : PlacedData) (contents : Contents) (s : State) (w : Progress) (st : Step) (done : Listing)
    → AreContents l.config.algo contents
    → length p.recs ≤ 512 → IsListed l.config w s → list_step l p w st ≡ Ok done
    → Follows l.config s (commands_of contents done.entries) (step_parts l p contents st) done.next
step-follows l p contents s w (step.Ram n) done good few is_listed at =
    named-follows l.config contents s w (list_region l.config w) (λ r. block_parts r.base r.end (least_level l.config)) (slice_get l.ram n) done is_listed
    (λ r there. region-follows l.config contents s w r done is_listed) at
step-follows l p contents s w (step.Item n) done good few is_listed at =
    named-follows l.config contents s w (list_item l.config w n) (λ i. page_parts (page_content i) contents n (page_base i) i.pages) (slice_get p.items n)
    done is_listed (λ item there. item-follows l.config contents s w n item done is_listed good) at
step-follows l p contents s w (step.Rec n) done good few is_listed at =
    named-follows l.config contents s w (list_rec l.config w n) (rec_parts_of l.config n) (slice_get p.recs n) done is_listed (λ r there.
    let inside : n < length p.recs = slice_get_within p.recs n r there in
    rec-follows l.config contents s w n r done is_listed (omega arith)) at

-- ---- the whole list

-- commands are all taken, measure these parts, and leave a realm with these parameters
record Ends (s : State) (cs : List Command) (ps : List Part) (params : RealmParams) : Type 0 where
  accepted : accepted s cs ≡ true
  shown : shown s cs ≡ ps
  realm : (run s cs).params ≡ Some params

then-ends : (s : State) (cs ds : List Command) (ps qs : List Part) (params : RealmParams) → accepted s cs ≡ true → shown s cs ≡ ps
    → Ends (run s cs) ds qs params → Ends s (cs ++ ds) (ps ++ qs) params
then-ends s cs ds ps qs params ok said ends = record {
  accepted = accepted-append s cs ds ∙ (ap (λ b. b && accepted (run s cs) ds) ok ∙ ends.accepted);
  shown = shown-append s cs ds ∙ (ap (λ xs. xs ++ shown (run s cs) ds) said ∙ ap (λ xs. ps ++ xs) ends.shown);
  realm = ap (λ t. t.params) (run-append s cs ds) ∙ ends.realm;
}

activated : (c : Config) (w : Progress) (s : State) → IsListed c w s → Ends s (Activate ∷ []) [] (realm_params c)
unfolding accepted shown run
activated c w s is_listed =
    let next : State = changed s Activate in
    let at : step s Activate ≡ Ok next = activate-taken s is_listed.built.new in
    record {
      accepted = accepted-taken s next Activate [] at;
      shown = shown-taken s next Activate [] at;
      realm = ap (λ t. t.params) (run-taken s next Activate [] at) ∙ is_listed.built.params;
    }

steps-end : (l : LaunchData) (p : PlacedData) (contents : Contents) (ss : List Step) (s : State) (w : Progress) (entries : List Entry)
    → AreContents l.config.algo contents
    → length p.recs ≤ 512 → IsListed l.config w s → list_steps l p w ss ≡ Ok entries
    → Ends s (commands_of contents entries) (flat_map (step_parts l p contents) ss) (realm_params l.config)
unfolding list_steps
steps-end l p contents [] s w entries good few is_listed at =
    let end : List Entry = Whole Activate ∷ [] in
    let same : end ≡ entries = cc in
    subst (λ es. Ends s (commands_of contents es) [] (realm_params l.config)) same (activated l.config w s is_listed)
steps-end l p contents (st ∷ ss) s w entries good few is_listed at =
    let first = bound (list_step l p w st) _ entries at in
    let done : Listing = first.0 in
    let second = fronted done.entries (list_steps l p done.next ss) entries (first.2) in
    let others : List Entry = second.0 in
    let here = step-follows l p contents s w st done good few is_listed (first.1) in
    let cs : List Command = commands_of contents done.entries in
    let rest = steps-end l p contents ss (run s cs) done.next others good few here.listed (second.1) in
    let words : commands_of contents entries ≡ cs ++ commands_of contents others =
    ap (commands_of contents) (second.2) ∙ map-append (command_of contents) done.entries others in
    rw words (then-ends s cs (commands_of contents others) (step_parts l p contents st) (flat_map (step_parts l p contents) ss)
    (realm_params l.config) here.accepted here.shown rest)

opened-listed : (c : Config) (contents : Contents)
    → Follows c (empty_state c.num_aux c.rec_rule) (commands_of contents (opening_entries c)) (Realm (realm_page_of (realm_params c)) ∷ []) (opening_progress c)
opened-listed c contents =
    let pool : c.pool_base % 65536 ≡ 0 = c.pool_aligned in
    let led = realm-leads contents (build_of c) (good-realm c) refl (omega arith) in
    let own : delegated (delegate_all (granules (start_count c.s2sz + 1) c.pool_base)) ≡ start_count c.s2sz + 1 =
    count-all (start_count c.s2sz + 1) c.pool_base in
    let count : delegated (opening_entries c) ≡ start_count c.s2sz + 1 =
    count-append (delegate_all (granules (start_count c.s2sz + 1) c.pool_base)) _ ∙ omega arith in
    record {
      accepted = led.accepted;
      shown = led.shown;
      listed = record { built = rw count led.built; planned = planned-nothing c.s2sz c.block_level c.level; least = refl };
    }

pub list-is-followed : (l : LaunchData) (p : PlacedData) (contents : Contents) (entries : List Entry) → AreContents l.config.algo contents
    → listed l p ≡ Ok entries → IsFollowed l.config.algo l.config.num_aux l.config.rec_rule (commands_of contents entries) (measured l p contents)
unfolding listed
list-is-followed l p contents entries good at =
    let c : Config = l.config in
    let s : State = empty_state c.num_aux c.rec_rule in
    let checks : List (Check ListFault) = opening_checks c p.recs in
    let first = bound (unless_refused checks (opening_entries c)) _ entries at in
    let opened : opening_entries c ≡ first.0 = is-done checks (opening_entries c) (first.0) (first.1) in
    let many : nat_lt REC_LIMIT (length p.recs) ≡ false = off-at checks 0 fault.NoMemory (none-holds checks (opening_entries c) (first.0) (first.1)) in
    let second = fronted (first.0) (list_steps l p (opening_progress c) l.steps) entries (first.2) in
    let others : List Entry = second.0 in
    let here = opened-listed c contents in
    let cs : List Command = commands_of contents (opening_entries c) in
    let rest = steps-end l p contents l.steps (run s cs) (opening_progress c) others good (grind (arith, nat_tests)) here.listed (second.1) in
    let words : commands_of contents entries ≡ cs ++ commands_of contents others =
    ap (commands_of contents) (second.2 ∙ ap (λ es. es ++ others) (sym opened)) ∙ map-append (command_of contents) (opening_entries c) others in
    let ends : Ends s (commands_of contents entries) (measured l p contents) (realm_params c) =
    rw words (then-ends s cs (commands_of contents others) (Realm (realm_page_of (realm_params c)) ∷ []) (flat_map (step_parts l p contents) l.steps)
    (realm_params c)
    here.accepted here.shown rest) in
    record {
      accepted = ends.accepted;
      shown = ends.shown;
      once = accepted-once s (commands_of contents entries) ends.accepted;
      by_algo = ap (option_map (λ (q : RealmParams). q.algo)) ends.realm;
      rim = rim-run c.num_aux c.rec_rule (commands_of contents entries) (realm_params c) ends.realm ∙ ap (λ ps. Some (rim_of c.algo ps)) ends.shown;
    }
