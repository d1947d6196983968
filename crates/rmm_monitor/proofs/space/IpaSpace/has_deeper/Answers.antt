use Rattle.std.proofs.Common.{◌≡◌, ◌||◌, arith}
use Rattle.rmm_model.specs.Space.{deeper}
use Rattle.rmm_monitor.proofs.DeeperByLevel.{deeper-by_level}
use Rattle.rmm_monitor.proofs.space.IpaSpace.has_deeper.Goals as goal

pub returns-then-second : goal.returns-then-second
returns-then-second c =
    let all : (c.is_deeper-first.result || c.is_deeper-second.result || c.is_deeper-third.result) ≡ deeper c.self.inside.tables.keys c.args.level c.args.base c.args.top =
    deeper-by_level c.self.inside.start c.self.inside.tables.keys c.args.level c.args.base c.args.top _ _ _ c.self.invariant.tables
    c.is_deeper-first.ensures c.is_deeper-second.ensures c.is_deeper-third.ensures in
    rw (← c.self.view_is) (grind arith)

pub returns-else-second : goal.returns-else-second
returns-else-second c =
    let all : (c.is_deeper-first.result || c.is_deeper-second.result || c.is_deeper-third.result) ≡ deeper c.self.inside.tables.keys c.args.level c.args.base c.args.top =
    deeper-by_level c.self.inside.start c.self.inside.tables.keys c.args.level c.args.base c.args.top _ _ _ c.self.invariant.tables
    c.is_deeper-first.ensures c.is_deeper-second.ensures c.is_deeper-third.ensures in
    rw (← c.self.view_is) (grind arith)
