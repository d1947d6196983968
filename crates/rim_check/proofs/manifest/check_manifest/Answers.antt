use Rattle.std.proofs.Common.{◌∙◌, ◌≡◌, Ok, ap, refl, subst, sym, true}
use Rattle.std.proofs.lemmas.Bool.{false≢true}
use Rattle.std.proofs.lemmas.Result.{IfOk-weaker}
use Rattle.toml.specs.Errors.{IsMemory}
use Rattle.toml.specs.View.{table_view}
use Rattle.rim_manifest.specs.declared.document.Checked.TheVariants.{Accepted}
use Rattle.rim_manifest.specs.Found.{AreFound, IsChecked}
use Rattle.rim_manifest.specs.inside.Kept.{faults_in}
use Rattle.rim_check.proofs.FaultsAreExplained.{explains-syntax, of-document, of-list, of-none}
use Rattle.rim_check.proofs.manifest.check_manifest.Goals as goal

pub returns-in-Err : goal.returns-in-Err
returns-in-Err c =
    let not_memory : ¬ (IsMemory c.in-Err.error) = λ m. let t : c.is_memory.result ≡ true = c.is_memory.ensures.1 m in false≢true (sym c.if-is_memory.false ∙ t) in
    let none = c.in-Err.ensures.refused not_memory in
    of-none c.args.path.now c.args.text.now _ none (explains-syntax c.args.path.now c.args.text.now c.in_ok-syntax_remark-in-Err.ensures.0 _ none c.in_ok-syntax_remark-in-Err.ensures.1)

pub returns-in-Accepted : goal.returns-in-Accepted
returns-in-Accepted c =
    let ms = table_view c.in-Ok.document.table in
    let checked : IsChecked ms (Accepted c.in-Accepted.release) = subst (IsChecked ms) c.in-Accepted.is c.in_ok-release.ensures in
    of-document c.args.path.now c.args.text.now ms (Ok c.in-Accepted.release) _ c.in-Ok.ensures.document checked refl

pub returns : goal.returns
returns c =
    let ms = table_view c.in-Ok.document.table in
    let list = c.in-Refused.list in
    let found : AreFound ms (faults_in list.findings.items) list.more = subst (IsChecked ms) c.in-Refused.is c.in_ok-release.ensures in
    IfOk-weaker c.remarks.result _ _
    (λ m shows. of-list c.args.path.now c.args.text.now ms _ _ m found c.in-Ok.ensures.document shows)
    c.remarks.ensures
