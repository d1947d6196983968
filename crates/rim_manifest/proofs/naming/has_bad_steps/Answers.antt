use Rattle.std.proofs.Common.{map, ap, sym, ◌∙◌}
use Rattle.std.proofs.lemmas.List.Folds.{list_any_at}
use Rattle.toml.specs.View.{view}
use Rattle.toml.specs.declared.value.Value.{Value}
use Rattle.rim_rules.proofs.ListsOfValues.{list_any_map}
use Rattle.rim_manifest.specs.StepTexts.{is_miscounted, is_misnamed}
use Rattle.rim_manifest.proofs.ReadStepByStep.{one_miscounted, some_misnamed}
use Rattle.rim_manifest.proofs.naming.has_bad_steps.Goals as goal

pub returns-then-any_miscounted : goal.returns-then-any_miscounted
returns-then-any_miscounted c _ =
    one_miscounted (map view c.args.launches.now)
    (list_any_map is_miscounted view c.args.launches.now ∙ sym c.any_miscounted.ensures ∙ c.if-any_miscounted.true)

pub returns-then-is_bad : goal.returns-then-is_bad
returns-then-is_bad c _ =
    some_misnamed (map view c.args.launches.now)
    (list_any_map is_misnamed view c.args.launches.now
    ∙ list_any_at (λ (v : Value). is_misnamed (view v)) c.args.launches.now c.loop-launch.launch-index c.launch-item.result c.loop-launch-test.true
    (ap (λ (v : Value). is_misnamed (view v)) (sym c.launch-item.is) ∙ c.in_ok-is_bad.ensures c.if-is_bad.true))
