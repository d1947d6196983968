use Rattle.std.proofs.Common.{◌≡◌, map, take}
use Rattle.map_rows.specs.Stretches.{region_stretch}
use Rattle.map_rows.proofs.stretches.rising_regions.Given as goal

-- the regions so far
abbrev pub invariant-loop-region : goal.invariant-loop-region
invariant-loop-region l = l.regions.items ≡ map region_stretch (take l.region-index l.ram)
