use Rattle.std.proofs.Common.{◌≡◌, None, is_some, sym, ap, ◌∙◌}
use Rattle.toml.specs.View.{table_view}
use Rattle.rim_manifest.specs.Faults.{lowest}
use Rattle.rim_manifest.specs.Manifest.{manifest_faults}
use Rattle.rim_manifest.proofs.FoundFaults.{accepted, found_in_names, found_in_tables, none_lowest, not_memory}
use Rattle.rim_manifest.proofs.document.Document.check.Goals as goal

pub returns-then-is_some : goal.returns-then-is_some
returns-then-is_some c =
    found_in_tables _ _ _ c.in_ok-found.ensures (sym (ap is_some c.lowest.ensures) ∙ sym c.is_some.ensures ∙ c.if-is_some.true)

pub returns : goal.returns
returns c =
    let none : lowest (manifest_faults (table_view c.args.self.now.table)) ≡ None =
    none_lowest _ _ _ c.lowest.result c.in_ok-found.ensures c.lowest.ensures (sym c.is_some.ensures ∙ c.if-is_some.false) in
    found_in_names _ _ _ c.in-Err.fault none
    (not_memory _ _ c.in_ok-faults_of_names-in-Err.ensures.own c.in-Err.ensures) c.in_ok-faults_of_names-in-Err.ensures.least
    c.in_ok-faults_of_names-in-Err.ensures.names

pub returns-in-Ok : goal.returns-in-Ok
returns-in-Ok c =
    let none : lowest (manifest_faults (table_view c.args.self.now.table)) ≡ None =
    none_lowest _ _ _ c.lowest.result c.in_ok-found.ensures c.lowest.ensures (sym c.is_some.ensures ∙ c.if-is_some.false) in
    accepted _ _ none c.in-Ok.ensures
