use Rattle.std.proofs.Common.{map}
use Rattle.page_jobs.specs.Page.{page_view}
use Rattle.page_jobs.specs.inside.Lanes.{AreWhole}
use Rattle.page_jobs.proofs.side_by_side.whole_pages.Given as goal

abbrev pub invariant-loop-i : goal.invariant-loop-i
invariant-loop-i l = AreWhole l.algo (map page_view l.pages) l.i
