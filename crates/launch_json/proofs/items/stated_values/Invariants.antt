use Rattle.std.proofs.Common.{◌≡◌, map, take, vec_len}
use Rattle.std.specs.Prelude.{option_map}
use Rattle.serde_json.specs.View.{view}
use Rattle.rim_manifest.specs.Launches.{item_name}
use Rattle.launch_json.specs.Items.{stated_items_json}
use Rattle.launch_json.proofs.items.stated_values.Given as goal

-- what was made, and how much
abbrev pub invariant-loop-item : goal.invariant-loop-item
invariant-loop-item l =
    (map view l.values.items
    ≡ stated_items_json (option_map (λ ds. ds.now) l.digests) (item_name l.shown.launch.now) l.shown.release.now.paths 0
    (take l.item-index l.items))
    × (vec_len l.values ≡ l.item-index)
