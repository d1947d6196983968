use Rattle.std.proofs.Common.{◌∙◌, refl}
use Rattle.page_jobs.specs.Page.{page_named, page_view}
use Rattle.rim_pages.proofs.DifferentPages.{page-next}
use Rattle.rim_pages.proofs.different.push_range.Goals as goal

pub loop-index-preserved : goal.loop-index-preserved
loop-index-preserved c =
    page-next page_view (page_named (λ source. c.args.bytes.now)) c.args.range.now.first c.loop-index.index _ _ _ _
    c.loop-index.invariant c.in_ok-push.ensures.items
    (c.page.ensures.page ∙ rw (c.new-blob.ensures.source, c.new-blob.ensures.lead, c.new-blob.ensures.bytes) refl)
