use Rattle.launch_plan.proofs.KeysByPlace.{key-at, key-past}
use Rattle.launch_plan.proofs.plan.key_in.Goals as goal

pub returns-then-number-count : goal.returns-then-number-count
returns-then-number-count c = rw c.in-Pages.is (key-at c.in-Pages.key c.in-Pages.count c.args.number c.if-number-count.true)

pub returns-else-number-count : goal.returns-else-number-count
returns-else-number-count c = rw c.in-Pages.is (key-past c.in-Pages.key c.in-Pages.count c.args.number c.if-number-count.false)
