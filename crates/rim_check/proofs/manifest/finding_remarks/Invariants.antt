use Rattle.std.proofs.Common.{take}
use Rattle.toml.specs.View.{table_view}
use Rattle.rim_check.specs.inside.Listed.{ShowsFindings}
use Rattle.rim_check.proofs.manifest.finding_remarks.Given as goal

abbrev pub invariant-loop-finding : goal.invariant-loop-finding
invariant-loop-finding l =
    ShowsFindings l.manifest.path.now (table_view l.manifest.document.now.table) (take l.finding-index l.found) l.remarks.items
