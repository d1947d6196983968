-- The keys of a launch's measured pages. This project's choice.
use Rattle.std.specs.Prelude.{ℕ, List, [], map, Option, Some, None, if◌then◌else◌}
use Rattle.std.specs.List.{flat_map, range_with_len, slice_get}
use Rattle.rim_desc.specs.declared.measurement.Algo.{Algo}
use Rattle.rim_desc.specs.declared.source.Source.{Source}
use Rattle.page_jobs.specs.declared.page.PageKey.{PageKey}
use Rattle.rim_launch.specs.LaunchData.{LaunchData}
use Rattle.rim_launch.specs.declared.step.Step.{Step}
use Rattle.rim_launch.specs.declared.step.Step.TheVariants as step
use Rattle.ipa_layout.specs.Layout.{PlacedData}
use Rattle.ipa_layout.specs.declared.placed.PlacedItem.{PlacedItem}

-- the key of a page of an item with this source, by the page's number
abbrev pub key_at : Algo → Source → PlacedItem → ℕ → PageKey
key_at algo source item page = record { algo = algo; source = source; lead = item.lead; number = page }

-- the keys of an item's pages, where it has a source and is measured
abbrev pub source_keys : Algo → PlacedItem → Option Source → List PageKey
source_keys algo item None = []
source_keys algo item (Some source) = if item.measured then map (key_at algo source item) (range_with_len 0 item.pages) else []

-- the same, where such an item exists
abbrev pub item_keys : Algo → Option PlacedItem → List PageKey
item_keys algo None = []
item_keys algo (Some item) = source_keys algo item item.source

-- those of what a step names
abbrev pub step_keys : LaunchData → PlacedData → Step → List PageKey
step_keys l p (step.Item n) = item_keys l.config.algo (slice_get p.items n)
step_keys l p _ = []

-- the keys of a launch's measured pages, in the order in which they are measured
abbrev pub measured_keys : LaunchData → PlacedData → List PageKey
measured_keys l p = flat_map (step_keys l p) l.steps
