use Rattle.page_jobs.specs.Page.{page_view}
use Rattle.rim_pages.proofs.DifferentPages.{pages-next}
use Rattle.rim_pages.proofs.different.pages_in.Goals as goal

pub loop-range-preserved : goal.loop-range-preserved
loop-range-preserved c =
    pages-next page_view _ c.args.ranges.now c.loop-range.range-index _ c.source_bytes-bytes.result.now _ _
    c.loop-range-test.true c.source_bytes-bytes.ensures c.loop-range.invariant c.in_ok-push_range.ensures
