use Rattle.std.proofs.Common.{sym}
use Rattle.rtt_plan.proofs.EndOfRun.{IsLongest, longest}
use Rattle.rtt_plan.proofs.longest.run_from.Goals as goal

reached : (c : goal.After-min) → IsLongest c.args.base c.args.end c.args.least_level c.args.x c.block_level-level.result c.min.result
reached c = longest _ _ _ _ _ _ c.requires.region c.requires.low c.requires.at c.requires.some (sym c.block_level-level.ensures.value) (cc)

pub returns-clause-runs : goal.returns-clause-runs
returns-clause-runs c = (reached c).runs

pub returns-clause-next : goal.returns-clause-next
returns-clause-next c = (reached c).next

pub returns-clause-grows : goal.returns-clause-grows
returns-clause-grows c = (reached c).grows
