use Rattle.std.proofs.Common.{◌≡◌, drop}
use Rattle.std.specs.List.{flat_map}
use Rattle.toml.specs.View.{view}
use Rattle.rim_manifest.specs.Manifest.{item_faults}
use Rattle.rim_manifest.specs.inside.Findings.{kept}
use Rattle.rim_manifest.specs.inside.Kept.{with_faults}
use Rattle.rim_manifest.proofs.manifest.check_items.Given as goal

abbrev pub invariant-loop-number : goal.invariant-loop-number
invariant-loop-number l = with_faults (kept l.found) (flat_map (λ v. item_faults (view v)) (drop l.number l.items))
    ≡ with_faults (kept l.initial.found) (flat_map (λ v. item_faults (view v)) l.items)
