-- The events of an accepted launch, read from its manifest's settings and the bytes of its files.
use Rattle.std.specs.Prelude.{ℕ, ◌+◌, ◌*◌, List, [], ◌∷◌, map, Option, Some, None, option_map, unwrap_or, if◌then◌else◌}
use Rattle.std.specs.List.{flat_map, range_with_len, slice_get}
use Rattle.rim_desc.specs.PageBytes.{page_bytes}
use Rattle.rim_desc.specs.Rule.{extends}
use Rattle.rim_desc.specs.declared.page.TheConstants.{PAGE_SIZE}
use Rattle.rim_desc.specs.declared.source.Source.{Source}
use Rattle.rmm_model.specs.Blocks.{size}
use Rattle.rmm_model.specs.Effects.{is_runnable}
use Rattle.rtt_plan.specs.Entries.{block_level, entries}
use Rattle.list_model.specs.declared.content.PageContent.{PageContent}
use Rattle.list_model.specs.declared.content.PageContent.TheVariants.{Measured, Unknown, Unmeasured}
use Rattle.rim_launch.specs.LaunchData.{LaunchData}
use Rattle.rim_launch.specs.Realm.{realm_params}
use Rattle.rim_launch.specs.declared.config.Config.{Config}
use Rattle.rim_launch.specs.declared.item.Region.{Region}
use Rattle.rim_launch.specs.declared.step.Step.{Step}
use Rattle.rim_launch.specs.declared.step.Step.TheVariants as step
use Rattle.ipa_layout.specs.Layout.{PlacedData, bytes_of_source}
use Rattle.ipa_layout.specs.declared.placed.PlacedItem.{PlacedItem}
use Rattle.ipa_layout.specs.declared.rec.PlacedRec.{PlacedRec}
use Rattle.rmi_list.specs.Measured.{least_level, page_base, page_content}
use Rattle.rmi_list.specs.RecParams.{rec_params}
use Rattle.rim_binding.specs.Event.{BecameRam, Created, Event, PageAdded, RecCreated, measured_params, measured_rec}

-- a region becomes RAM by largest blocks
abbrev pub region_events : Config → Region → List Event
region_events c r =
    map (λ x. BecameRam x (x + size (block_level r.base r.end (least_level c) x))) (entries r.base r.end (least_level c))

-- the bytes of page k of an item
abbrev pub item_page : List (List ℕ) → PlacedData → ℕ → Option Source → ℕ → List ℕ
item_page files p lead None k = []
item_page files p lead (Some source) k = page_bytes lead (bytes_of_source files p source) k

-- the pages of an item, by what the monitor knows about them; a page of unknown content is not an event
abbrev pub page_events : PageContent → (ℕ → ℕ) → (ℕ → List ℕ) → ℕ → List Event
page_events Unknown ipa page count = []
page_events Unmeasured ipa page count = map (λ k. PageAdded (ipa k) None) (range_with_len 0 count)
page_events Measured ipa page count = map (λ k. PageAdded (ipa k) (Some (page k))) (range_with_len 0 count)

abbrev pub item_events : List (List ℕ) → PlacedData → PlacedItem → List Event
item_events files p i =
    page_events (page_content i) (λ k. page_base i + PAGE_SIZE * k) (item_page files p i.lead i.source) i.pages

-- a REC, where it extends the measurement
abbrev pub rec_events : Config → ℕ → PlacedRec → List Event
rec_events c number r =
    let params = rec_params number r [] in
    if extends c.rec_rule (is_runnable params.flags) then RecCreated (measured_rec params) ∷ [] else []

-- the events of a step: a region's blocks, an item's pages, or a REC
abbrev pub step_events : List (List ℕ) → LaunchData → PlacedData → Step → List Event
step_events files l p (step.Ram n) = unwrap_or (option_map (region_events l.config) (slice_get l.ram n)) []
step_events files l p (step.Item n) = unwrap_or (option_map (item_events files p) (slice_get p.items n)) []
step_events files l p (step.Rec n) = unwrap_or (option_map (rec_events l.config n) (slice_get p.recs n)) []

-- the events of a launch: its realm's creation, and those of its steps in order
abbrev pub launch_events : List (List ℕ) → LaunchData → PlacedData → List Event
launch_events files l p = Created (measured_params (realm_params l.config)) ∷ flat_map (step_events files l p) l.steps
