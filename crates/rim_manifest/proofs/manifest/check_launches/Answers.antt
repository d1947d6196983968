use Rattle.std.proofs.Common.{◌∙◌, ap}
use Rattle.toml.specs.View.{view}
use Rattle.rim_manifest.specs.Manifest.{launch_faults}
use Rattle.rim_manifest.specs.inside.Findings.{kept}
use Rattle.rim_manifest.specs.inside.Kept.{with_faults}
use Rattle.rim_manifest.proofs.FaultsInTurn.{noted_step}
use Rattle.rim_manifest.proofs.manifest.check_launches.Goals as goal

pub loop-number-preserved : goal.loop-number-preserved
loop-number-preserved c =
    noted_step (λ d. launch_faults c.args.version (view d)) _ _ c.index-launches-number.result _ _ c.loop-number-test.true
    (c.in_ok-check_launch.ensures ∙ ap (λ v. with_faults (kept c.loop-number.found) (launch_faults c.args.version (view v))) c.index-launches-number.is)
    ∙ c.loop-number.invariant
