use Rattle.job_tasks.proofs.RowsOfOwnPages.{row_begun}
use Rattle.job_tasks.proofs.rows.WorkerRow.filled_for.Goals as goal

pub fill_row_on-requires-clause-begun : goal.fill_row_on-requires-clause-begun
fill_row_on-requires-clause-begun g c =
    rw (c.truncate.ensures, c.pages_before.ensures)
    (row_begun (λ p. p.now) c.args.table.now g.L.Run.pages c.args.plan.now.links c.kept_links-links.result c.self.inside.plan c.self.inside.row.digests c.pages-pages.ensures.table c.requires.pages
    c.self.invariant.1 c.kept_links-links.ensures.first c.kept_links-links.ensures.none c.requires.all)
