-- The commands that a host gives the monitor to build the realm of a launch, or the first reason why it has no such list.
-- The order of the commands, of the granules and of the reasons is this project's choice.
use Rattle.std.specs.Prelude.{ℕ, ◌+◌, ◌==◌, ◌&&◌, Bool, not, nat_lt, is_some, List, [], ◌∷◌, ◌++◌, map, length, Option, Some, None, Result, Ok, if◌then◌else◌}
use Rattle.std.specs.List.{slice_get}
use Rattle.refusal.specs.Answer.{◌>>=◌, with_front}
use Rattle.refusal.specs.Checks.{Check, unless_refused}
use Rattle.rim_desc.specs.declared.command.Command.TheVariants.{Activate}
use Rattle.rim_desc.specs.declared.rule.RecRule.{RecRule}
use Rattle.rmm_model.specs.Blocks.{granules}
use Rattle.rtt_plan.specs.Planned.{Planned, after_data, after_region, data_checks, nothing_planned, region_checks}
use Rattle.rtt_plan.specs.declared.fault.PlanFault.{PlanFault}
use Rattle.list_model.specs.Entries.{Entry, Whole, delegated, granule, item_entries, realm_entries, rec_entries, region_entries}
use Rattle.rim_launch.specs.LaunchData.{LaunchData}
use Rattle.rim_launch.specs.Realm.{realm_params}
use Rattle.rim_launch.specs.declared.config.Config.{Config}
use Rattle.rim_launch.specs.declared.item.Region.{Region}
use Rattle.rim_launch.specs.declared.step.Step.{Step}
use Rattle.rim_launch.specs.declared.step.Step.TheVariants as step
use Rattle.ipa_layout.specs.Layout.{IsPlaced, PlacedData}
use Rattle.ipa_layout.specs.declared.placed.PlacedItem.{PlacedItem}
use Rattle.ipa_layout.specs.declared.rec.PlacedRec.{PlacedRec}
use Rattle.rmi_list.specs.RecParams.{rec_params}
use Rattle.rmi_list.specs.Measured.{page_base, page_content}
use Rattle.rmi_list.specs.declared.fault.ListFault.{ListFault}
use Rattle.rmi_list.specs.declared.fault.ListFault.TheVariants.{Plan, PoolEnd, TooManyRecs, RecOrder, RecNotRunnable}
use Rattle.rim_desc.specs.declared.rec.TheConstants.{REC_LIMIT}

-- what was listed so far
pub record Progress : Type 0 where
  -- the tables, the RAM and the pages of data
  pub plan : Planned
  -- how many granules of the pool were taken
  pub taken : ℕ
  -- how many RECs were listed
  pub num_recs : ℕ

-- the entries of a step, and what was listed with them
pub record Listing : Type 0 where
  pub entries : List Entry
  pub next : Progress

-- what is left of the pool has fewer granules than the entries take
abbrev pub pool_check : Config → ℕ → List Entry → Check ListFault
pool_check c taken entries = (PoolEnd, nat_lt c.pool_count (taken + delegated entries))

-- the checks of a plan, each refusing by its own fault
abbrev pub plan_checks : List (Check PlanFault) → List (Check ListFault)
plan_checks checks = map (λ check. (Plan check.0, check.1)) checks

-- ---- steps

-- a region becomes RAM
unfoldable pub list_region : Config → Progress → Region → Result Listing ListFault
list_region c w r =
    let entries = region_entries c.pool_base w.taken w.plan r.base r.end in
    unless_refused (plan_checks (region_checks w.plan r.base r.end) ++ pool_check c w.taken entries ∷ []) (record {
      entries = entries;
      next = record w { plan = after_region w.plan r.base r.end; taken = w.taken + delegated entries };
    })

-- the pages of an item are created; an item without pages lists nothing
unfoldable pub list_item : Config → Progress → ℕ → PlacedItem → Result Listing ListFault
list_item c w number item =
    let entries = item_entries c.pool_base w.taken w.plan (page_content item) number (page_base item) item.pages in
    if item.pages == 0 then Ok (record { entries = []; next = w })
    else unless_refused (plan_checks (data_checks w.plan (page_base item) item.pages) ++ pool_check c w.taken entries ∷ []) (record {
      entries = entries;
      next = record w { plan = after_data w.plan (page_base item) item.pages; taken = w.taken + delegated entries };
    })

-- a REC that is not runnable, in a launch without a rule for such
abbrev pub lacks_rule : Option RecRule → PlacedRec → Bool
lacks_rule rule r = not r.runnable && not (is_some rule)

-- a REC is created, with the auxiliary granules after its own
unfoldable pub list_rec : Config → Progress → ℕ → PlacedRec → Result Listing ListFault
list_rec c w number r =
    let entries = rec_entries c.pool_base w.taken c.num_aux (rec_params number r (granules c.num_aux (granule c.pool_base (w.taken + 1)))) in
    unless_refused ((RecOrder, not (number == w.num_recs)) ∷ (RecNotRunnable, lacks_rule c.rec_rule r) ∷ pool_check c w.taken entries ∷ []) (record {
      entries = entries;
      next = record w { taken = w.taken + delegated entries; num_recs = w.num_recs + 1 };
    })

-- what a number names is listed; nothing where it names nothing, which the type of a launch excludes: a step names one of
-- its regions, items or RECs
abbrev pub list_named : {A : Type 0} → Progress → (A → Result Listing ListFault) → Option A → Result Listing ListFault
list_named w list None = Ok (record { entries = []; next = w })
list_named w list (Some x) = list x

abbrev pub list_step : LaunchData → PlacedData → Progress → Step → Result Listing ListFault
list_step l p w (step.Ram n) = list_named w (list_region l.config w) (slice_get l.ram n)
list_step l p w (step.Item n) = list_named w (list_item l.config w n) (slice_get p.items n)
list_step l p w (step.Rec n) = list_named w (list_rec l.config w n) (slice_get p.recs n)

-- the steps in order, and the end
unfoldable pub list_steps : LaunchData → PlacedData → Progress → List Step → Result (List Entry) ListFault
list_steps l p w [] = Ok (Whole Activate ∷ [])
list_steps l p w (s ∷ ss) = list_step l p w s >>= λ done. with_front done.entries (list_steps l p done.next ss)

-- ---- the whole list

-- start tables and realm descriptor, and the realm
abbrev pub opening_entries : Config → List Entry
opening_entries c = realm_entries c.pool_base (realm_params c)

-- what was listed with them
abbrev pub opening_progress : Config → Progress
opening_progress c = record { plan = nothing_planned c.s2sz c.block_level; taken = delegated (opening_entries c); num_recs = 0 }

abbrev pub opening_checks : Config → List PlacedRec → List (Check ListFault)
opening_checks c recs = (TooManyRecs, nat_lt REC_LIMIT (length recs)) ∷ pool_check c 0 (opening_entries c) ∷ []

-- the list of a launch that has its place
unfoldable pub listed : LaunchData → PlacedData → Result (List Entry) ListFault
listed l p = unless_refused (opening_checks l.config p.recs) (opening_entries l.config)
    >>= λ first. with_front first (list_steps l p (opening_progress l.config) l.steps)

-- the launch has its place, with some files: what a call asks that lists it
abbrev pub HasPlace : LaunchData → PlacedData → Type 0
HasPlace l p = (files : List (List ℕ)) × IsPlaced l files p
