use Rattle.std.proofs.Common.{◌∙◌}
use Rattle.toml.specs.View.{table_view}
use Rattle.rim_manifest.specs.Checks.{rule_faults}
use Rattle.rim_rules.specs.Rules.{rule_of}
use Rattle.rim_manifest.proofs.FaultsInTurn.{noted_step}
use Rattle.rim_manifest.proofs.check.check_rules.Goals as goal

pub loop-rule-preserved : goal.loop-rule-preserved
loop-rule-preserved c =
    noted_step (λ r. rule_faults (rule_of r) (table_view c.args.table.now)) _ _ _ _ _ c.loop-rule-test.true c.in_ok-check_rule.ensures ∙ c.loop-rule.invariant
