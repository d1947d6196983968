use Rattle.std.proofs.Common.{◌≡◌, map, take, true}
use Rattle.std.specs.List.{list_all}
use Rattle.toml.specs.View.{view}
use Rattle.rim_launch.specs.LaunchData.{is_launch}
use Rattle.rim_manifest.specs.Launches.{NamedData, launches_from}
use Rattle.rim_manifest.proofs.manifest.read_launches.Given as goal

abbrev pub invariant-loop-number : goal.invariant-loop-number
invariant-loop-number l =
    (l.launches.items ≡ launches_from l.version (map view l.files) 0 (map view (take l.number l.tables)))
    × (list_all (λ (m : NamedData). is_launch m.launch) l.launches.items ≡ true)
