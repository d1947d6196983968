use Rattle.std.proofs.Common.{◌≡◌, map, take}
use Rattle.serde_json.specs.View.{view}
use Rattle.rim_map.specs.MapJson.{regions_json}
use Rattle.rim_map.proofs.json_parts.region_values.Given as goal

-- what was made
abbrev pub invariant-loop-region : goal.invariant-loop-region
invariant-loop-region l = map view l.values.items ≡ regions_json l.taken (take l.region-index l.ram)
