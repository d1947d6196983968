use Rattle.std.proofs.Common.{ap, sym, ◌∙◌}
use Rattle.std.proofs.lemmas.Result.{on_ok_weaker}
use Rattle.toml.specs.View.{table_view}
use Rattle.rim_manifest.specs.StepTexts.{has_bad_steps}
use Rattle.rim_manifest.proofs.FaultsInTurn.{adds_among}
use Rattle.rim_manifest.proofs.LowestFault.{name_among}
use Rattle.rim_manifest.proofs.ReadStepByStep.{twice, without}
use Rattle.rim_manifest.proofs.naming.find_names.Goals as goal

pub returns : goal.returns
returns c =
    let ms = table_view c.args.table.now in
    on_ok_weaker c.find_by_place.result
    (adds_among _ _ _ _ (name_among ms _ _ _ (twice ms _ _ _ c.entries-files.ensures c.entries-launches.ensures c.has_two_names.ensures)
    (without ms _ _ _ c.entries-files.ensures c.entries-launches.ensures c.has_no_file.ensures)
    (λ e. ap has_bad_steps (sym c.entries-launches.ensures) ∙ c.in_ok-has_bad_steps.ensures e))) c.find_by_place.ensures
