-- The links that the steps of a launch are read as. This project's choice.
use Rattle.std.specs.Prelude.{ℕ, ◌-◌, ◌/◌, ◌^◌, ◌≤◌, ◌==◌, ⊤, List, [], ◌∷◌, map, Option, Some, None, if◌then◌else◌}
use Rattle.std.specs.List.{slice_get}
use Rattle.rim_desc.specs.Measurement.{measurement_of}
use Rattle.rim_desc.specs.Rec.{rec_page_of}
use Rattle.rim_desc.specs.Rule.{extends}
use Rattle.rim_desc.specs.declared.rule.RecRule.{RecRule}
use Rattle.rim_desc.specs.declared.measurement.Algo.{Algo}
use Rattle.rim_desc.specs.declared.source.Source.{Source}
use Rattle.rmm_model.specs.Blocks.{size}
use Rattle.rtt_plan.specs.Places.{IsRegion}
use Rattle.rtt_plan.specs.Runs.{runs_of}
use Rattle.rtt_plan.specs.declared.run.Run.{Run}
use Rattle.rim_launch.specs.LaunchData.{LaunchData}
use Rattle.rim_launch.specs.declared.item.Region.{Region}
use Rattle.rim_launch.specs.declared.step.Step.{Step}
use Rattle.rim_launch.specs.declared.step.Step.TheVariants as step
use Rattle.ipa_layout.specs.Layout.{PlacedData}
use Rattle.ipa_layout.specs.declared.placed.PlacedItem.{PlacedItem}
use Rattle.ipa_layout.specs.declared.rec.PlacedRec.{PlacedRec}
use Rattle.rmi_list.specs.Measured.{least_level, page_base}
use Rattle.rmi_list.specs.RecParams.{rec_params}
use Rattle.launch_plan.specs.Keys.{key_at}
use Rattle.launch_plan.specs.declared.link.Link.{Link}
use Rattle.launch_plan.specs.declared.link.Link.TheVariants as link

-- the blocks of a run
abbrev pub run_link : Run → Link
run_link r = link.Blocks r.base (size r.level) ((r.top - r.base) / size r.level)

abbrev pub region_links : ℕ → Option Region → List Link
region_links least_level None = []
region_links least_level (Some r) = map run_link (runs_of r.base r.end least_level)

-- the pages of an item with this source
abbrev pub pages_link : Algo → PlacedItem → Source → Link
pages_link algo item source =
    if item.measured then link.Pages (page_base item) (key_at algo source item 0) item.pages else link.Unmeasured (page_base item) item.pages

-- an item without a source is not measured, so it has no link
abbrev pub source_links : Algo → PlacedItem → Option Source → List Link
source_links algo item None = []
source_links algo item (Some source) = pages_link algo item source ∷ []

-- nor has an item without pages
abbrev pub item_links : Algo → Option PlacedItem → List Link
item_links algo None = []
item_links algo (Some item) = if item.pages == 0 then [] else source_links algo item item.source

-- a REC has a link where it extends the measurement. Its number is not measured
abbrev pub rec_links : Option RecRule → Algo → Option PlacedRec → List Link
rec_links rule algo None = []
rec_links rule algo (Some r) =
    if extends rule r.runnable then link.Rec (record { bytes = measurement_of algo (rec_page_of (rec_params 0 r [])) }) ∷ [] else []

abbrev pub step_links : LaunchData → PlacedData → Step → List Link
step_links l p (step.Ram n) = region_links (least_level l.config) (slice_get l.ram n)
step_links l p (step.Item n) = item_links l.config.algo (slice_get p.items n)
step_links l p (step.Rec n) = rec_links l.config.rec_rule l.config.algo (slice_get p.recs n)

-- a region, where one exists, is of whole pages below 2^47
abbrev pub IsReadableRegion : Option Region → Type 0
IsReadableRegion None = ⊤
IsReadableRegion (Some r) = IsRegion r.base r.end × (r.end ≤ 2 ^ 47)

-- the region of a step can be read
abbrev pub IsReadable : LaunchData → Step → Type 0
IsReadable l (step.Ram n) = IsReadableRegion (slice_get l.ram n)
IsReadable l (step.Item n) = ⊤
IsReadable l (step.Rec n) = ⊤
