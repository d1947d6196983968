use Rattle.std.proofs.Common.{◌≡◌, List, ◌++◌, map, Bool, not, codes, ap, sym, ◌∙◌}
use Rattle.std.specs.List.{flat_map}
use Rattle.std.proofs.lemmas.Result.{on_ok_weaker}
use Rattle.toml.proofs.Views.{view-Table}
use Rattle.toml.specs.Data.{Members, table}
use Rattle.toml.specs.View.{view}
use Rattle.toml.specs.declared.value.Value.{Value}
use Rattle.rim_manifest.specs.declared.fault.ManifestFault.{ManifestFault}
use Rattle.rim_manifest.specs.declared.fault.ManifestFault.TheVariants.{MissingKey}
use Rattle.rim_manifest.specs.Checks.{ruled_faults, table_faults}
use Rattle.rim_manifest.specs.Faults.{fault_if}
use Rattle.rim_manifest.specs.Manifest.{item_faults, launch_faults}
use Rattle.rim_rules.specs.Names.{has_asked}
use Rattle.rim_rules.specs.Rules.{Rule, rec_rules}
use Rattle.rim_rules.specs.Versions.{lacks_rule, launch_rules_in}
use Rattle.rim_rules.specs.declared.version.FormatVersion.{FormatVersion}
use Rattle.rim_rules.specs.Values.{array_at}
use Rattle.rim_manifest.specs.inside.Findings.{kept}
use Rattle.rim_manifest.specs.inside.Kept.{Kept, with_faults}
use Rattle.rim_manifest.proofs.FaultsInTurn.{flat_map_map, noted_two}
use Rattle.rim_manifest.proofs.manifest.check_launch.Goals as goal

-- the five kinds of faults of a launch, found one after another
noted_launch : (v : FormatVersion) (ms : Members) (items recs : List Value) (asked lacks : Bool) (rs : List Rule) (o a b c e f : Kept) → rs ≡ launch_rules_in v
    → a ≡ with_faults o (table_faults rs ms)
    → map view items ≡ array_at (codes "item") (table ms) → b ≡ with_faults a (flat_map (λ v. item_faults (view v)) items)
    → map view recs ≡ array_at (codes "rec") (table ms) → c ≡ with_faults b (flat_map (λ v. ruled_faults rec_rules (view v)) recs)
    → asked ≡ has_asked (table ms) → e ≡ with_faults c (fault_if (not asked) MissingKey)
    → lacks ≡ lacks_rule v (table ms) → f ≡ with_faults e (fault_if lacks MissingKey) → f ≡ with_faults o (launch_faults v (table ms))
unfolding launch_faults
noted_launch v ms items recs asked lacks rs o a b c e f rules_are of_table items_are of_items recs_are of_recs asked_is of_asked lacks_is last =
    let things : List ManifestFault = flat_map item_faults (array_at (codes "item") (table ms)) in
    let processors : List ManifestFault = flat_map (ruled_faults rec_rules) (array_at (codes "rec") (table ms)) in
    let missing : List ManifestFault = fault_if (not (has_asked (table ms))) MissingKey in
    let of_things : b ≡ with_faults a things =
    of_items ∙ ap (with_faults a) (sym (flat_map_map item_faults view items) ∙ ap (flat_map item_faults) items_are) in
    let of_processors : c ≡ with_faults b processors =
    of_recs ∙ ap (with_faults b) (sym (flat_map_map (ruled_faults rec_rules) view recs) ∙ ap (flat_map (ruled_faults rec_rules)) recs_are) in
    let ruleless : List ManifestFault = fault_if (lacks_rule v (table ms)) MissingKey in
    let of_missing : e ≡ with_faults c missing = of_asked ∙ ap (λ x. with_faults c (fault_if (not x) MissingKey)) asked_is in
    let of_ruleless : f ≡ with_faults e ruleless = last ∙ ap (λ x. with_faults e (fault_if x MissingKey)) lacks_is in
    noted_two o a f (table_faults (launch_rules_in v) ms) (things ++ (processors ++ (missing ++ ruleless)))
    (of_table ∙ ap (λ x. with_faults o (table_faults x ms)) rules_are)
    (noted_two a b f things (processors ++ (missing ++ ruleless)) of_things
    (noted_two b c f processors (missing ++ ruleless) of_processors (noted_two c e f missing ruleless of_missing of_ruleless)))

pub returns : goal.returns
returns c =
    let is : view c.args.launch.now ≡ table _ = ap view c.in-Table.is ∙ view-Table c.in-Table.table in
    on_ok_weaker c.note_if-2.result
    (λ last. noted_launch c.args.version _ c.array.result.now c.array-2.result.now c.has_asked.result c.lacks_rule.result _ _ _ _ _ _ _
    c.launch_rules.ensures c.in_ok-check_table.ensures
    (c.array.ensures ∙ ap (array_at (codes "item")) is) c.in_ok-check_items.ensures
    (c.array-2.ensures ∙ ap (array_at (codes "rec")) is) c.in_ok-check_tables.ensures
    (c.has_asked.ensures ∙ ap has_asked is) c.in_ok-note_if.ensures (c.lacks_rule.ensures ∙ ap (lacks_rule c.args.version) is)
    (last ∙ ap (λ f. with_faults (kept c.note_if.new.found) (fault_if c.lacks_rule.result f)) c.at_key-no_rule.ensures)
    ∙ ap (λ d. with_faults (kept c.args.found.now) (launch_faults c.args.version d)) (sym is)) c.note_if-2.ensures
