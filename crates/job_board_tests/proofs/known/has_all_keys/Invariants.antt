use Rattle.std.specs.List.{All, AllWithin, Contains}
use Rattle.page_jobs.specs.Table.{page_keys_of as page_keys}
use Rattle.launch_plan.specs.Links.{keys_of}
use Rattle.job_board_tests.proofs.known.has_all_keys.Given as goal

abbrev pub invariant-loop-plan : goal.invariant-loop-plan
invariant-loop-plan l = AllWithin (λ p. All (Contains (page_keys l.table.pages)) (keys_of p.links)) l.plans 0 l.plan-index
