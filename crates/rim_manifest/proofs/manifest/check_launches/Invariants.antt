use Rattle.std.proofs.Common.{◌≡◌, drop}
use Rattle.std.specs.List.{flat_map}
use Rattle.toml.specs.View.{view}
use Rattle.rim_manifest.specs.Manifest.{launch_faults}
use Rattle.rim_manifest.specs.inside.Findings.{kept}
use Rattle.rim_manifest.specs.inside.Kept.{with_faults}
use Rattle.rim_manifest.proofs.manifest.check_launches.Given as goal

abbrev pub invariant-loop-number : goal.invariant-loop-number
invariant-loop-number l = with_faults (kept l.found) (flat_map (λ d. launch_faults l.version (view d)) (drop l.number l.launches))
    ≡ with_faults (kept l.initial.found) (flat_map (λ d. launch_faults l.version (view d)) l.launches)
