use Rattle.std.proofs.Common.{take}
use Rattle.rmm_monitor.proofs.KindsGivenInTurn.{all_owned-give}
use Rattle.rmm_monitor.proofs.monitor.Monitor.realm_create.Goals as goal

pub give_all-requires : goal.give_all-requires
give_all-requires c = let k = c.if-cannot_hold_realm.ensures in rw c.give.ensures (all_owned-give c.self.inside.owners c.args.rd _ (take c.args.params.now.rtt_num_start c.start_tables-places.result) k.owned)
