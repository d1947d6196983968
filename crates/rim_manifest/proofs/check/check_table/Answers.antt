use Rattle.std.proofs.Common.{◌∙◌, ap, sym, map}
use Rattle.std.specs.List.{flat_map}
use Rattle.std.proofs.lemmas.Result.{on_ok_weaker}
use Rattle.toml.specs.View.{table_view}
use Rattle.rim_manifest.specs.declared.fault.ManifestFault.TheVariants.{UnknownKey}
use Rattle.rim_manifest.specs.Checks.{has_unknown_key, rule_faults}
use Rattle.rim_manifest.specs.Faults.{fault_if}
use Rattle.rim_rules.specs.Rules.{rule_of}
use Rattle.rim_manifest.specs.inside.Findings.{kept}
use Rattle.rim_manifest.specs.inside.Kept.{with_faults}
use Rattle.rim_manifest.proofs.FaultsInTurn.{flat_map_map, noted_two}
use Rattle.rim_manifest.proofs.check.check_table.Goals as goal

pub returns : goal.returns
returns c =
    let ms = table_view c.args.table.now in
    let rs = map rule_of c.args.rules.now in
    on_ok_weaker c.check_rules.result
    (λ e. noted_two (kept c.args.found.now) _ _ (fault_if (has_unknown_key rs ms) UnknownKey) (flat_map (λ r. rule_faults r ms) rs)
    (c.in_ok-note_if.ensures ∙ ap (λ b. with_faults (kept c.args.found.now) (fault_if b UnknownKey)) c.has_unknown_key.ensures)
    (e ∙ ap (with_faults (kept c.note_if.new.found)) (sym (flat_map_map (λ r. rule_faults r ms) rule_of c.args.rules.now)))) c.check_rules.ensures
