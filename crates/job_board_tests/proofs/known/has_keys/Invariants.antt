use Rattle.std.specs.List.{AllWithin, Contains}
use Rattle.page_jobs.specs.Table.{page_keys_of as page_keys}
use Rattle.launch_plan.specs.Links.{keys_of}
use Rattle.job_board_tests.proofs.known.has_keys.Given as goal

abbrev pub invariant-loop-index : goal.invariant-loop-index
invariant-loop-index l = AllWithin (Contains (page_keys l.table.pages)) (keys_of l.plan.links) 0 l.index
