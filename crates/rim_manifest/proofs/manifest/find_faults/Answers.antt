use Rattle.std.proofs.Common.{◌≡◌, List, ◌++◌, map, Bool, not, codes, ap, sym, ◌∙◌}
use Rattle.std.specs.List.{flat_map}
use Rattle.toml.specs.Data.{Members, get_member}
use Rattle.std.proofs.lemmas.Result.{on_ok_weaker}
use Rattle.toml.specs.View.{table_view, view}
use Rattle.toml.specs.declared.value.Value.{Value}
use Rattle.rim_manifest.specs.declared.fault.ManifestFault.{ManifestFault}
use Rattle.rim_manifest.specs.declared.fault.ManifestFault.TheVariants.{Version}
use Rattle.rim_manifest.specs.Checks.{ruled_faults, table_faults}
use Rattle.rim_manifest.specs.Faults.{fault_if}
use Rattle.rim_manifest.specs.Manifest.{files_at, launch_faults, launches_at, manifest_faults}
use Rattle.rim_rules.specs.Versions.{has_version, version_at}
use Rattle.rim_rules.specs.declared.version.FormatVersion.{FormatVersion}
use Rattle.rim_rules.specs.Rules.{file_rules, top_rules}
use Rattle.rim_manifest.specs.inside.Findings.{kept}
use Rattle.rim_manifest.specs.inside.Kept.{Kept, with_faults}
use Rattle.rim_manifest.proofs.FaultsInTurn.{flat_map_map, noted_two}
use Rattle.rim_manifest.proofs.manifest.find_faults.Goals as goal

-- the four kinds of faults of a manifest, found one after another
noted_manifest : (ms : Members) (files launches : List Value) (versioned : Bool) (v : FormatVersion) (o a b c e : Kept)
    → a ≡ with_faults o (fault_if (not versioned) Version)
    → versioned ≡ has_version (get_member (codes "rim_manifest") ms) → b ≡ with_faults a (table_faults top_rules ms)
    → map view files ≡ files_at ms → c ≡ with_faults b (flat_map (λ v. ruled_faults file_rules (view v)) files)
    → v ≡ version_at ms → map view launches ≡ launches_at ms → e ≡ with_faults c (flat_map (λ l. launch_faults v (view l)) launches)
    → e ≡ with_faults o (manifest_faults ms)
unfolding manifest_faults
noted_manifest ms files launches versioned v o a b c e of_version versioned_is of_top files_are of_files v_is launches_are of_launches =
    let of_number : List ManifestFault = fault_if (not (has_version (get_member (codes "rim_manifest") ms))) Version in
    let in_files : List ManifestFault = flat_map (ruled_faults file_rules) (files_at ms) in
    let in_launches : List ManifestFault = flat_map (launch_faults (version_at ms)) (launches_at ms) in
    let first : a ≡ with_faults o of_number = of_version ∙ ap (λ x. with_faults o (fault_if (not x) Version)) versioned_is in
    let then_files : c ≡ with_faults b in_files =
    of_files ∙ ap (with_faults b) (sym (flat_map_map (ruled_faults file_rules) view files) ∙ ap (flat_map (ruled_faults file_rules)) files_are) in
    let then_launches : e ≡ with_faults c in_launches =
    of_launches
    ∙ ap (with_faults c) (sym (flat_map_map (launch_faults v) view launches) ∙ ap (flat_map (launch_faults v)) launches_are
    ∙ ap (λ w. flat_map (launch_faults w) (launches_at ms)) v_is) in
    noted_two o a e of_number (table_faults top_rules ms ++ (in_files ++ in_launches)) first
    (noted_two a b e (table_faults top_rules ms) (in_files ++ in_launches) of_top (noted_two b c e in_files in_launches then_files then_launches))

pub returns : goal.returns
returns c =
    on_ok_weaker c.check_launches.result
    (λ last. noted_manifest (table_view c.args.table.now) c.entries.result.now c.entries-2.result.now c.has_version.result c.version.result
    (kept c.args.found.now) _ _ _ _
    c.in_ok-note_if.ensures c.has_version.ensures c.in_ok-check_table.ensures c.entries.ensures c.in_ok-check_tables.ensures c.version.ensures
    c.entries-2.ensures last) c.check_launches.ensures
