use Rattle.std.proofs.Common.{arith}
use Rattle.rmm_monitor.proofs.space.IpaSpace.walk_level.Goals as goal

pub returns-clause-value : goal.returns-clause-value
returns-clause-value c = rw (← c.self.view_is) c.walk_level.ensures.value

pub returns-clause-most : goal.returns-clause-most
returns-clause-most c = c.walk_level.ensures.most (omega (arith, c.self.invariant.start))
