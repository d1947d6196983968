-- How a list grows, command by command and step by step. This project's choice.
use Rattle.std.specs.Prelude.{◌≡◌, ◌⊎◌, ℕ, ◌+◌, ◌<◌, ◌≤◌, List, ◌++◌, length, Option, Some, Result, Ok, Err}
use Rattle.std.specs.List.{All, slice_get}
use Rattle.rtt_plan.specs.Planned.{AgreesWith}
use Rattle.list_model.specs.Entries.{Entry, delegated}
use Rattle.rim_launch.specs.LaunchData.{LaunchData}
use Rattle.rim_launch.specs.Realm.{realm_params}
use Rattle.ipa_layout.specs.declared.placed.PlacedItem.{PlacedItem}
use Rattle.ipa_layout.specs.declared.reason.IpaRange.{IpaRange}
use Rattle.rmi_list.specs.Granules.{with_config}
use Rattle.rmi_list.specs.Listed.{Listing, Progress, listed}
use Rattle.rmi_list.specs.declared.draft.Draft.{Draft}
use Rattle.rmi_list.specs.declared.fault.ListFault.{ListFault}
use Rattle.rmi_list.specs.declared.reason.StepReason.TheVariants.{PoolEnd}
use Rattle.rmi_list.specs.declared.step_fault.StepFault.{StepFault}
use Rattle.rmi_list.specs.declared.step_fault.StepFault.TheVariants as fault
use Rattle.rmi_list.specs.declared.span.Span.{Span}
use Rattle.rmi_list.specs.inside.Spans.{IsSpan, entries_of, entries_of_span}
use Rattle.rmi_list.specs.inside.Steps.{IsStepFault}
use Rattle.ipa_layout.specs.Layout.{PlacedData}
use Rattle.ipa_layout.specs.declared.item_check.TheConstants.{PAGE_LIMIT}
use Rattle.rim_desc.specs.declared.rec.TheConstants.{REC_LIMIT}
use Rattle.rim_launch.specs.declared.launch.TheConstants.{ITEM_LIMIT}

-- the launch of a draft, with the draft's configuration
abbrev pub launch_of : Draft → LaunchData
launch_of d = with_config d.launch.now d.config

-- the entries of the commands that were listed
abbrev pub entries_in : Draft → List Entry
entries_in d = entries_of (realm_params d.config) d.config.num_aux d.placed.now.recs d.spans.items

abbrev pub span_in : Draft → Span → List Entry
span_in d k = entries_of_span (realm_params d.config) d.config.num_aux d.placed.now.recs k

-- how far it is
abbrev pub progress_of : Draft → Progress
progress_of d = record { plan = d.tables; taken = d.taken; num_recs = d.num_recs }

-- no more granules were taken than the pool has
abbrev pub InPool : Draft → Type 0
InPool d = d.taken ≤ d.config.pool_count

-- the spans that are kept can be numbered
abbrev pub AreSpans : Draft → Type 0
AreSpans d = All IsSpan d.spans.items

-- some entries were added, with the granules that they take, and nothing else has changed
pub record Grows (old new : Draft) (es : List Entry) : Type 0 where
  pub launch : new.launch ≡ old.launch
  pub config : new.config ≡ old.config
  pub placed : new.placed ≡ old.placed
  pub tables : new.tables ≡ old.tables
  pub num_recs : new.num_recs ≡ old.num_recs
  pub entries : entries_in new ≡ entries_in old ++ es
  pub taken : new.taken ≡ old.taken + delegated es
  pub pool : InPool old → InPool new
  pub spans : AreSpans old → AreSpans new

-- memory was refused, or the pool has too few granules for some entries
abbrev pub Refuses : Draft → StepFault → List Entry → Type 0
Refuses d e entries = (e ≡ fault.NoMemory) ⊎ ((e ≡ fault.Refused PoolEnd) × (d.config.pool_count < d.taken + delegated entries))

-- some entries were added, or refused
abbrev pub Lists : {U : Type 0} → Draft → Draft → Result U StepFault → List Entry → Type 0
Lists old new (Ok done) entries = Grows old new entries
Lists old new (Err e) entries = Refuses old e entries

-- the commands that were listed are the whole list of a launch, and no granule was taken beside them
pub record IsWhole (l : LaunchData) (p : PlacedData) (d : Draft) : Type 0 where
  pub listed : listed l p ≡ Ok (entries_in d)
  pub taken : delegated (entries_in d) ≡ d.taken
  pub pool : InPool d
  pub spans : AreSpans d
  pub recs : length d.placed.now.recs ≤ REC_LIMIT

-- ---- steps

-- what is listed goes on alike
pub record SameProgress (v w : Progress) : Type 0 where
  pub plan : AgreesWith v.plan w.plan
  pub taken : v.taken ≡ w.taken
  pub num_recs : v.num_recs ≡ w.num_recs

-- the entries of a listing were added, and its progress was made
pub record Makes (old new : Draft) (done : Listing) : Type 0 where
  pub launch : new.launch ≡ old.launch
  pub config : new.config ≡ old.config
  pub placed : new.placed ≡ old.placed
  pub entries : entries_in new ≡ entries_in old ++ done.entries
  pub taken : new.taken ≡ old.taken + delegated done.entries
  pub progress : SameProgress (progress_of new) done.next
  pub pool : InPool new
  pub spans : AreSpans old → AreSpans new

-- of a step with these addresses: the listing that its definition answers was made; or memory was refused, or it was refused
-- for the reason that the definition has
abbrev pub Continues : {U : Type 0} → Draft → Draft → Option IpaRange → Result U StepFault → Result Listing ListFault → Type 0
Continues old new extent (Ok u) wanted = (done : Listing) × (wanted ≡ Ok done) × Makes old new done
Continues old new extent (Err e) wanted = IsStepFault extent old.num_recs e wanted

-- ---- items

-- an item whose pages a list can name: an item of a launch, of which there are at most 64, with at most 1,048,576 pages
-- that begin inside its first page
pub record IsListable (n : ℕ) (item : PlacedItem) : Type 0 where
  pub few : n < ITEM_LIMIT
  pub pages : item.pages ≤ PAGE_LIMIT
  pub lead : item.lead ≤ item.address

abbrev pub AreListable : List PlacedItem → Type 0
AreListable items = (number : ℕ) (item : PlacedItem) → slice_get items number ≡ Some item → IsListable number item
