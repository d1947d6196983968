use Rattle.std.proofs.Common.{◌≡◌, map, take}
use Rattle.toml.specs.View.{view}
use Rattle.rim_rules.specs.Items.{item_of}
use Rattle.rim_manifest.proofs.item.read_items.Given as goal

abbrev pub invariant-loop-table : goal.invariant-loop-table
invariant-loop-table l = l.items.items ≡ map (λ t. item_of (map view l.files) (view t)) (take l.table-index l.tables)
