use Rattle.std.proofs.Common.{◌≡◌, map}
use Rattle.page_jobs.specs.Page.{page_view}
use Rattle.rim_report.specs.inside.Filled.{IsFilledTo}
use Rattle.rim_report.proofs.hashing.hashed.Given as goal

abbrev pub invariant-loop-slot : goal.invariant-loop-slot
invariant-loop-slot l = (l.ahead.pages.now ≡ l.pages) × (l.table.pages ≡ map page_view l.pages) × IsFilledTo l.table l.slot
