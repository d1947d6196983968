use Rattle.std.proofs.Common.{List, subst, sym}
use Rattle.std.specs.List.{All, Contains}
use Rattle.page_jobs.specs.Page.{PageView}
use Rattle.page_jobs.specs.Table.{page_keys_of}
use Rattle.launch_plan.specs.Links.{keys_of}
use Rattle.rim_report.proofs.workers.run.Goals as goal

pub with_lanes-requires-clause-keys : goal.with_lanes-requires-clause-keys
with_lanes-requires-clause-keys g c =
    subst (λ (ps : List PageView). All (λ p. All (Contains (page_keys_of ps)) (keys_of p.links)) c.args.plans.now)
    (sym c.in_ok-table.ensures.pages) c.requires.keys
