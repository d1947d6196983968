use Rattle.std.specs.List.{filter_map}
use Rattle.launch_plan.specs.Links.{keys_of}
use Rattle.page_jobs.specs.Table.{digest_at}
use Rattle.job_tasks.proofs.RowsOfOwnPages.{run_row}
use Rattle.rim_report.proofs.ChainsAreRims.{row-of-all}
use Rattle.rim_report.proofs.chains.own_rim.Goals as goal

pub returns : goal.returns
returns g c =
    let t = c.args.table.now in
    let p = c.args.plan.now in
    let digests = filter_map (digest_at t) (keys_of p.links) in
    let row = run_row t c.pages-pages.ensures.table g.L.Run.pages (keys_of p.links) digests c.requires.pages (row-of-all t (keys_of p.links) c.requires.all) in
    c.requires.own p digests c.requires.plan row
