use Rattle.std.proofs.Common.{[], refl}
use Rattle.toml.specs.View.{table_view}
use Rattle.rim_check.proofs.FindingLines.{all-shown, shown-at}
use Rattle.rim_check.proofs.manifest.finding_remarks.Goals as goal

pub loop-finding-init : goal.loop-finding-init
loop-finding-init c = record { faults = []; are = refl; lines = c.new-remarks.ensures.items }

pub loop-finding-preserved : goal.loop-finding-preserved
loop-finding-preserved c =
    let ms = table_view c.args.manifest.now.document.now.table in
    shown-at c.args.manifest.now.path.now ms _ _ _ _ _ _ c.loop-finding-test.true c.in_ok-add_remark.ensures c.loop-finding.invariant

pub returns : goal.returns
returns c = all-shown c.args.manifest.now.path.now (table_view c.args.manifest.now.document.now.table) _ _ _ c.loop-finding-test.false c.loop-finding.invariant
