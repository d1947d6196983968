use Rattle.std.proofs.Common.{◌≡◌, drop}
use Rattle.std.specs.List.{flat_map}
use Rattle.toml.specs.View.{table_view}
use Rattle.rim_manifest.specs.Checks.{rule_faults}
use Rattle.rim_rules.specs.Rules.{rule_of}
use Rattle.rim_manifest.specs.inside.Findings.{kept}
use Rattle.rim_manifest.specs.inside.Kept.{with_faults}
use Rattle.rim_manifest.proofs.check.check_rules.Given as goal

abbrev pub invariant-loop-rule : goal.invariant-loop-rule
invariant-loop-rule l = with_faults (kept l.found) (flat_map (λ r. rule_faults (rule_of r) (table_view l.table)) (drop l.rule-index l.rules))
    ≡ with_faults (kept l.initial.found) (flat_map (λ r. rule_faults (rule_of r) (table_view l.table)) l.rules)
