use Rattle.std.proofs.Common.{◌≡◌, [], ap, subst, ◌∙◌}
use Rattle.std.specs.Prelude.{Contains}
use Rattle.std.proofs.lemmas.List.Elements.{All-cons, All-nil, All-same}
use Rattle.std.proofs.lemmas.Result.{IfOk-weaker}
use Rattle.toml.specs.View.{table_view}
use Rattle.rim_manifest.specs.Manifest.{name_faults}
use Rattle.rim_manifest.specs.inside.Findings.{kept, list_kept}
use Rattle.rim_manifest.specs.inside.Kept.{AddsOnly, Listed, faults_in}
use Rattle.rim_manifest.proofs.FaultsInTurn.{all_among}
use Rattle.rim_manifest.proofs.LowestFault.{named_contained}
use Rattle.rim_manifest.proofs.document.faults_of_names.Goals as goal

pub returns-in-Listed-clause-names : goal.returns-in-Listed-clause-names
returns-in-Listed-clause-names c _ =
    let has = name_faults (table_view c.args.table.now) in
    let none : list_kept c.new.result ≡ Listed [] 0 =
    ap (λ fs. Listed (faults_in fs) c.new.result.more) c.new.ensures.findings ∙ ap (Listed []) c.new.ensures.more in
    all_among has _ c.in-Listed.list c.in-Listed.is (subst (λ k. AddsOnly has k (kept c.find_names.new.found)) none c.in_ok-find_names.ensures)

pub returns-in_default-clause-names : goal.returns-in_default-clause-names
returns-in_default-clause-names c =
    let ms = table_view c.args.table.now in
    IfOk-weaker c.one_fault.result _ _
    (λ found one refused. All-same (Contains (name_faults ms)) _ _ one
    (All-cons (Contains (name_faults ms)) c.args.fault [] (named_contained ms c.args.fault refused) (All-nil (Contains (name_faults ms)))))
    c.one_fault.ensures.one
