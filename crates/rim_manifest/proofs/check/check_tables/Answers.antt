use Rattle.std.proofs.Common.{◌∙◌, ap, map}
use Rattle.toml.specs.View.{view}
use Rattle.rim_manifest.specs.Checks.{ruled_faults}
use Rattle.rim_rules.specs.Rules.{rule_of}
use Rattle.rim_manifest.specs.inside.Findings.{kept}
use Rattle.rim_manifest.specs.inside.Kept.{with_faults}
use Rattle.rim_manifest.proofs.FaultsInTurn.{noted_step}
use Rattle.rim_manifest.proofs.check.check_tables.Goals as goal

pub loop-number-preserved : goal.loop-number-preserved
loop-number-preserved c =
    noted_step (λ v. ruled_faults (map rule_of c.args.rules.now) (view v)) _ _ c.index-tables-number.result _ _ c.loop-number-test.true
    (c.in_ok-check_ruled.ensures ∙ ap (λ v. with_faults (kept c.loop-number.found)
    (ruled_faults (map rule_of c.args.rules.now) (view v))) c.index-tables-number.is) ∙ c.loop-number.invariant
