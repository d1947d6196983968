-- What is measured of a launch that has its place, part by part, in the order of its steps. DEN0137, "Realm Initial
-- Measurement"; the order is this project's choice.
use Rattle.std.specs.Prelude.{ℕ, ◌-◌, Bool, List, [], ◌∷◌, Option, Some, None, if◌then◌else◌}
use Rattle.std.specs.List.{flat_map, slice_get}
use Rattle.rim_desc.specs.Measurement.{measurement_of}
use Rattle.rim_desc.specs.PageBytes.{page_bytes}
use Rattle.rim_desc.specs.Part.{Part, Realm}
use Rattle.rim_desc.specs.Realm.{realm_page_of}
use Rattle.rim_desc.specs.declared.measurement.Algo.{Algo}
use Rattle.rim_desc.specs.declared.source.Source.{Source}
use Rattle.rmm_model.specs.Effects.{rec_parts}
use Rattle.rtt_plan.specs.Planned.{least_level_of}
use Rattle.list_model.specs.declared.content.PageContent.{PageContent}
use Rattle.list_model.specs.declared.content.PageContent.TheVariants.{Measured, Unmeasured, Unknown}
use Rattle.list_model.specs.Entries.{Contents}
use Rattle.list_model.specs.Parts.{block_parts, page_parts}
use Rattle.rim_launch.specs.LaunchData.{LaunchData}
use Rattle.rim_launch.specs.Realm.{realm_params}
use Rattle.rim_launch.specs.declared.config.Config.{Config}
use Rattle.rim_launch.specs.declared.step.Step.{Step}
use Rattle.rim_launch.specs.declared.step.Step.TheVariants as step
use Rattle.ipa_layout.specs.Layout.{PlacedData, bytes_of_source}
use Rattle.ipa_layout.specs.declared.placed.PlacedItem.{PlacedItem}
use Rattle.ipa_layout.specs.declared.rec.PlacedRec.{PlacedRec}
use Rattle.rmi_list.specs.RecParams.{rec_params}

-- ---- the contents of a placed launch

-- the measurement of page k of an item with this lead; nothing without a source
abbrev pub source_page_digest : Algo → List (List ℕ) → PlacedData → ℕ → Option Source → ℕ → List ℕ
source_page_digest algo files p lead None k = []
source_page_digest algo files p lead (Some source) k = measurement_of algo (page_bytes lead (bytes_of_source files p source) k)

-- the same of an item, and nothing where there is no such item
abbrev pub item_page_digest : Algo → List (List ℕ) → PlacedData → Option PlacedItem → ℕ → List ℕ
item_page_digest algo files p None k = []
item_page_digest algo files p (Some item) k = source_page_digest algo files p item.lead item.source k

abbrev pub page_contents : LaunchData → List (List ℕ) → PlacedData → Contents
page_contents l files p item k = record { bytes = item_page_digest l.config.algo files p (slice_get p.items item) k }

-- ---- its parts

-- what the monitor knows of the content of pages with a source, or with none, of an item that is measured or not
abbrev pub known_of : Option Source → Bool → PageContent
known_of None measured = Unknown
known_of (Some source) measured = if measured then Measured else Unmeasured

abbrev pub page_content : PlacedItem → PageContent
page_content item = known_of item.source item.measured

-- the least level of a block of its RAM
abbrev pub least_level : Config → ℕ
least_level c = least_level_of c.s2sz c.block_level

-- the address of the first page of an item
abbrev pub page_base : PlacedItem → ℕ
page_base item = item.address - item.lead

-- the part of a REC, where it extends the measurement; its auxiliary granules are not measured
abbrev pub rec_parts_of : Config → ℕ → PlacedRec → List Part
rec_parts_of c number r = rec_parts c.rec_rule c.algo (rec_params number r [])

-- the parts of what a number names, if it names something. In a launch it does: its type excludes other steps
abbrev pub of_named : {A : Type 0} → (A → List Part) → Option A → List Part
of_named parts None = []
of_named parts (Some x) = parts x

-- the parts of a step: a region's blocks, an item's pages, or a REC
abbrev pub step_parts : LaunchData → PlacedData → Contents → Step → List Part
step_parts l p contents (step.Ram n) = of_named (λ r. block_parts r.base r.end (least_level l.config)) (slice_get l.ram n)
step_parts l p contents (step.Item n) = of_named (λ i. page_parts (page_content i) contents n (page_base i) i.pages) (slice_get p.items n)
step_parts l p contents (step.Rec n) = of_named (rec_parts_of l.config n) (slice_get p.recs n)

-- the whole launch: its realm, and the parts of its steps
abbrev pub measured : LaunchData → PlacedData → Contents → List Part
measured l p contents = Realm (realm_page_of (realm_params l.config)) ∷ flat_map (step_parts l p contents) l.steps
