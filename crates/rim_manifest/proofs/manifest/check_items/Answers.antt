use Rattle.std.proofs.Common.{◌∙◌, ap}
use Rattle.toml.specs.View.{view}
use Rattle.rim_manifest.specs.Manifest.{item_faults}
use Rattle.rim_manifest.specs.inside.Findings.{kept}
use Rattle.rim_manifest.specs.inside.Kept.{with_faults}
use Rattle.rim_manifest.proofs.FaultsInTurn.{noted_step}
use Rattle.rim_manifest.proofs.manifest.check_items.Goals as goal

pub loop-number-preserved : goal.loop-number-preserved
loop-number-preserved c =
    noted_step (λ v. item_faults (view v)) _ _ c.index-items-number.result _ _ c.loop-number-test.true
    (c.in_ok-check_item.ensures ∙ ap (λ v. with_faults (kept c.loop-number.found) (item_faults (view v))) c.index-items-number.is) ∙ c.loop-number.invariant
