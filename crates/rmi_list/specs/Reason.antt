-- Which part of a launch's list is refused, with the numbers that its checks look at. This project's choice.
use Rattle.std.specs.Prelude.{◌≡◌, ℕ, ◌+◌, ◌*◌, ◌<◌, List, [], ◌∷◌, length, take, Option, Some, None, option_map, Result, Ok, Err}
use Rattle.std.specs.List.{slice_get}
use Rattle.refusal.specs.Answer.{◌>>=◌}
use Rattle.list_model.specs.Entries.{delegated}
use Rattle.rim_launch.specs.LaunchData.{LaunchData}
use Rattle.rim_launch.specs.declared.item.Region.{Region}
use Rattle.rim_launch.specs.declared.step.Step.{Step}
use Rattle.rim_launch.specs.declared.step.Step.TheVariants as step
use Rattle.ipa_layout.specs.Layout.{PlacedData}
use Rattle.ipa_layout.specs.declared.placed.PlacedItem.{PlacedItem}
use Rattle.ipa_layout.specs.declared.reason.IpaRange.{IpaRange}
use Rattle.rmi_list.specs.Listed.{Progress, list_step, listed, opening_entries, opening_progress}
use Rattle.rmi_list.specs.Measured.{page_base}
use Rattle.rmi_list.specs.declared.fault.ListFault.{ListFault}
use Rattle.rmi_list.specs.declared.fault.ListFault.TheVariants as fault
use Rattle.rmi_list.specs.declared.reason.ListReason.{ListReason}
use Rattle.rmi_list.specs.declared.reason.ListReason.TheVariants as reason
use Rattle.rmi_list.specs.declared.reason.StepReason.{StepReason}
use Rattle.rmi_list.specs.declared.reason.StepReason.TheVariants.{Plan, PoolEnd, RecNotRunnable, RecOrder}
use Rattle.rim_desc.specs.declared.page.TheConstants.{PAGE_SIZE}
use Rattle.rim_desc.specs.declared.rec.TheConstants.{REC_LIMIT}

-- ---- the fault that each reason is one of

abbrev pub step_fault_of : StepReason → ListFault
step_fault_of (Plan why range) = fault.Plan why
step_fault_of PoolEnd = fault.PoolEnd
step_fault_of (RecOrder listed) = fault.RecOrder
step_fault_of RecNotRunnable = fault.RecNotRunnable

abbrev pub list_fault_of : ListReason → ListFault
list_fault_of (reason.TooManyRecs count) = fault.TooManyRecs
list_fault_of reason.Opening = fault.PoolEnd
list_fault_of (reason.Step number s why) = step_fault_of why

-- ---- steps

-- the addresses of a region, and of the pages of an item
abbrev pub region_range : Region → IpaRange
region_range r = record { base = r.base; end = r.end }

abbrev pub item_range : PlacedItem → IpaRange
item_range i = record { base = page_base i; end = page_base i + PAGE_SIZE * i.pages }

-- the addresses that a step is about; a REC has none
abbrev pub step_extent : LaunchData → PlacedData → Step → Option IpaRange
step_extent l p (step.Ram n) = option_map region_range (slice_get l.ram n)
step_extent l p (step.Item n) = option_map item_range (slice_get p.items n)
step_extent l p (step.Rec n) = None

-- the numbers of a step's reason are its addresses, or how many RECs were listed before it
abbrev pub Shows : Option IpaRange → ℕ → StepReason → Type 0
Shows extent num_recs (Plan why range) = extent ≡ Some range
Shows extent num_recs (RecOrder listed) = listed ≡ num_recs
Shows extent num_recs why = Unit {0}

-- what was listed after some steps, or the first refusal of them
unfoldable pub after_steps : LaunchData → PlacedData → Progress → List Step → Result Progress ListFault
after_steps l p w [] = Ok w
after_steps l p w (s ∷ ss) = list_step l p w s >>= λ done. after_steps l p done.next ss

-- the launch's step of this number is refused for this reason, and those before it are not
pub record IsRefusedStep (l : LaunchData) (p : PlacedData) (number : ℕ) (s : Step) (why : StepReason) : Type 0 where
  -- what was listed before it
  pub before : Progress
  pub in_launch : slice_get l.steps number ≡ Some s
  pub reached : after_steps l p (opening_progress l.config) (take number l.steps) ≡ Ok before
  pub refused : list_step l p before s ≡ Err (step_fault_of why)
  pub shown : Shows (step_extent l p s) before.num_recs why

-- ---- the whole list

-- the part of the list that a reason names is the one that is refused
abbrev pub IsPart : LaunchData → PlacedData → ListReason → Type 0
IsPart l p (reason.TooManyRecs count) = (count ≡ length p.recs) × (REC_LIMIT < count)
IsPart l p reason.Opening = l.config.pool_count < delegated (opening_entries l.config)
IsPart l p (reason.Step number s why) = IsRefusedStep l p number s why

-- why the launch has no list
pub record IsReason (l : LaunchData) (p : PlacedData) (why : ListReason) : Type 0 where
  pub refused : listed l p ≡ Err (list_fault_of why)
  pub part : IsPart l p why
