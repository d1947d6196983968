-- Which plan a launch that has its place is read as. This project's choice.
use Rattle.std.specs.Prelude.{◌≡◌, ℕ, map, Some}
use Rattle.std.specs.List.{slice_get}
use Rattle.rim_desc.specs.declared.measurement.Measurement.{Measurement}
use Rattle.rim_desc.specs.declared.source.Source.{Source}
use Rattle.page_jobs.specs.declared.page.PageKey.{PageKey}
use Rattle.list_model.specs.Entries.{Contents}
use Rattle.rim_launch.specs.LaunchData.{LaunchData}
use Rattle.rim_launch.specs.Realm.{realm_params}
use Rattle.ipa_layout.specs.Layout.{PlacedData}
use Rattle.ipa_layout.specs.declared.placed.PlacedItem.{PlacedItem}
use Rattle.rmi_list.specs.Measured.{measured}
use Rattle.launch_plan.specs.Keys.{key_at, measured_keys}
use Rattle.launch_plan.specs.Links.{PlanView, keys_of, parts_of}

-- the measurement of each page of an item with a source is the one that belongs to its key
abbrev pub GoByKeys : LaunchData → PlacedData → (PageKey → Measurement) → Contents → Type 0
GoByKeys l p digest contents = (number page : ℕ) (item : PlacedItem) (source : Source) → slice_get p.items number ≡ Some item → item.source ≡ Some source
    → contents number page ≡ digest (key_at l.config.algo source item page)

-- A plan reads a launch: it has the parameters of the launch's realm and the keys of its measured pages, and whatever the
-- digests of the pages are, its parts with them are the launch's.
pub record IsReadOf (l : LaunchData) (p : PlacedData) (v : PlanView) : Type 0 where
  pub params : v.params ≡ realm_params l.config
  pub keys : keys_of v.links ≡ measured_keys l p
  pub parts : (digest : PageKey → Measurement) (contents : Contents) → GoByKeys l p digest contents
      → parts_of v (map digest (keys_of v.links)) ≡ measured l p contents
