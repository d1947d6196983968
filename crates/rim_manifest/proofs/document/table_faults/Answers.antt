use Rattle.std.proofs.Common.{◌≡◌, [], ap, ◌∙◌}
use Rattle.toml.specs.View.{table_view}
use Rattle.rim_manifest.specs.Manifest.{manifest_faults}
use Rattle.rim_manifest.specs.inside.Findings.{list_kept}
use Rattle.rim_manifest.specs.inside.Kept.{Kept, Listed, faults_in, with_faults}
use Rattle.rim_manifest.proofs.FaultsInTurn.{list_is, not_lowest}
use Rattle.rim_manifest.proofs.document.table_faults.Goals as goal

pub returns : goal.returns
returns c =
    let faults = manifest_faults (table_view c.args.table.now) in
    let none : list_kept c.new.result ≡ Listed [] 0 =
    ap (λ fs. Listed (faults_in fs) c.new.result.more) c.new.ensures.findings ∙ ap (Listed []) c.new.ensures.more in
    list_is _ faults _ c.in-Listed.is (c.in_ok-find_faults.ensures ∙ ap (λ (k : Kept). with_faults k faults) none)

pub unreachable-requires : goal.unreachable-requires
unreachable-requires c =
    let faults = manifest_faults (table_view c.args.table.now) in
    let none : list_kept c.new.result ≡ Listed [] 0 =
    ap (λ fs. Listed (faults_in fs) c.new.result.more) c.new.ensures.findings ∙ ap (Listed []) c.new.ensures.more in
    not_lowest _ faults _ c.in-Lowest.is (c.in_ok-find_faults.ensures ∙ ap (λ (k : Kept). with_faults k faults) none)
