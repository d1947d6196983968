-- An address space as JSON values. This project's choice.
use Rattle.std.specs.Prelude.{◌≡◌, ℕ, List, map}
use Rattle.serde_json.specs.View.{view}
use Rattle.rim_manifest.specs.Launches.{NamedData}
use Rattle.rim_map.specs.MapJson.{SpaceView, space_of}
use Rattle.rim_map.specs.RefusedMap.{stated_of}
use Rattle.map_rows.specs.Stretches.{AreRising, IsBetween, row_pages}
use Rattle.rim_map.specs.declared.json.Space.{Space}
use Rattle.map_rows.specs.declared.rows.Row.{Row}
use Rattle.map_rows.specs.declared.stretches.Stretch.{Stretch}

abbrev pub seen_space : Space → SpaceView
seen_space s = record { gaps = map view s.gaps.items; items = map view s.items.items; regions = map view s.regions.items }

-- a space is that of a launch whose items have these places, where files have these paths
pub record IsSpace (paths : List (List ℕ)) (l : NamedData) (rows : List Row) (space : SpaceView) : Type 0 where
  pub taken : List Stretch
  pub between : List Stretch
  pub rising : AreRising (map row_pages rows) taken
  pub around : IsBetween l.launch.ram between
  pub is : space ≡ space_of paths l rows taken between

-- a space is that of a launch whose items have no places
pub record IsStated (paths : List (List ℕ)) (l : NamedData) (space : SpaceView) : Type 0 where
  pub between : List Stretch
  pub around : IsBetween l.launch.ram between
  pub is : space ≡ stated_of paths l between
