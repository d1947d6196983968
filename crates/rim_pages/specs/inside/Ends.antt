-- The measured items of launches, each by the key after its last page. This project's choice.
use Rattle.std.specs.Prelude.{List, [], ◌∷◌, Option, Some, None, Result, Ok, Err, if◌then◌else◌}
use Rattle.std.specs.List.{flat_map, slice_get}
use Rattle.page_jobs.specs.declared.page.PageKey.{PageKey}
use Rattle.rim_desc.specs.declared.measurement.Algo.{Algo}
use Rattle.rim_desc.specs.declared.source.Source.{Source}
use Rattle.rim_launch.specs.LaunchData.{LaunchData}
use Rattle.rim_launch.specs.declared.step.Step.{Step}
use Rattle.rim_launch.specs.declared.step.Step.TheVariants as step
use Rattle.ipa_layout.specs.Layout.{PlacedData}
use Rattle.ipa_layout.specs.declared.placed.PlacedItem.{PlacedItem}
use Rattle.rim_accepted.specs.declared.accepted.AcceptedLaunch.{AcceptedLaunch}
use Rattle.launch_plan.specs.Keys.{key_at}
use Rattle.rim_accepted.specs.declared.refused.RefusedLaunch.{RefusedLaunch}

abbrev pub source_ends : Algo → PlacedItem → Option Source → List PageKey
source_ends algo item None = []
source_ends algo item (Some source) = if item.measured then key_at algo source item item.pages ∷ [] else []

abbrev pub item_ends : Algo → Option PlacedItem → List PageKey
item_ends algo None = []
item_ends algo (Some item) = source_ends algo item item.source

abbrev pub step_ends : LaunchData → PlacedData → Step → List PageKey
step_ends l p (step.Ram n) = []
step_ends l p (step.Item n) = item_ends l.config.algo (slice_get p.items n)
step_ends l p (step.Rec n) = []

-- of a launch that is accepted
abbrev pub launch_ends : AcceptedLaunch → List PageKey
launch_ends a = flat_map (step_ends a.named.now.launch a.placed) a.named.now.launch.steps

-- a launch that is refused has no measured items
abbrev pub outcome_ends : Result AcceptedLaunch RefusedLaunch → List PageKey
outcome_ends (Ok a) = launch_ends a
outcome_ends (Err refused) = []
