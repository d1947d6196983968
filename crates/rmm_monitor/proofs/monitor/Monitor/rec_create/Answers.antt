use Rattle.std.proofs.Common.{arith}
use Rattle.std.proofs.lemmas.Grind.{common_steps}
use Rattle.rmm_monitor.proofs.KindsGivenInTurn.{all_owned-give}
use Rattle.rmm_monitor.proofs.monitor.Monitor.rec_create.Goals as goal

pub give_all-requires : goal.give_all-requires
give_all-requires c = let k = c.if-cannot_hold_rec.ensures in rw c.give.ensures (all_owned-give c.self.inside.owners c.args.rec _ c.aux-aux.result.now k.owned)

pub returns-then-extends-clause-exact : goal.returns-then-extends-clause-exact
returns-then-extends-clause-exact c = grind (arith, common_steps) steps 700000

pub returns-else-extends-clause-exact : goal.returns-else-extends-clause-exact
returns-else-extends-clause-exact c = grind (arith, common_steps) steps 700000
