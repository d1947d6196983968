use Rattle.std.proofs.Common.{◌≡◌, ◌++◌, map}
use Rattle.std.specs.Prelude.{option_map}
use Rattle.serde_json.specs.View.{view}
use Rattle.rim_manifest.specs.Launches.{item_name}
use Rattle.launch_json.specs.Items.{items_json}
use Rattle.launch_json.proofs.items.item_values.Given as goal

-- what was made, and what is left
abbrev pub invariant-loop-item : goal.invariant-loop-item
invariant-loop-item l =
    map view l.values.items
    ++ items_json (option_map (λ ds. ds.now) l.digests) (item_name l.shown.launch.now) l.shown.release.now.paths l.item-iterator.a.rest.now
    l.item-iterator.b.rest.now
    ≡ items_json (option_map (λ ds. ds.now) l.digests) (item_name l.shown.launch.now) l.shown.release.now.paths l.shown.launch.now.launch.items l.rows
