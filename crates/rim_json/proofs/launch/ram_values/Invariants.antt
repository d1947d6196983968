use Rattle.std.proofs.Common.{◌≡◌, map, take}
use Rattle.map_rows.specs.Stretches.{region_stretch}
use Rattle.rim_json.proofs.launch.ram_values.Given as goal

-- what was made
abbrev pub invariant-loop-region : goal.invariant-loop-region
invariant-loop-region l = l.regions.items ≡ map region_stretch (take l.region-index l.ram)
