use Rattle.std.proofs.Common.{◌≡◌, drop, map}
use Rattle.std.specs.List.{flat_map}
use Rattle.toml.specs.View.{view}
use Rattle.rim_manifest.specs.Checks.{ruled_faults}
use Rattle.rim_rules.specs.Rules.{rule_of}
use Rattle.rim_manifest.specs.inside.Findings.{kept}
use Rattle.rim_manifest.specs.inside.Kept.{with_faults}
use Rattle.rim_manifest.proofs.check.check_tables.Given as goal

abbrev pub invariant-loop-number : goal.invariant-loop-number
invariant-loop-number l = with_faults (kept l.found) (flat_map (λ v. ruled_faults (map rule_of l.rules) (view v)) (drop l.number l.tables))
    ≡ with_faults (kept l.initial.found) (flat_map (λ v. ruled_faults (map rule_of l.rules) (view v)) l.tables)
