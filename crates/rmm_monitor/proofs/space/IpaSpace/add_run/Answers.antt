use Rattle.std.proofs.Common.{arith}
use Rattle.rmm_model.proofs.LastMeets.{apart-insert}
use Rattle.rmm_monitor.proofs.space.IpaSpace.add_run.Goals as goal

pub invariant_of-self-2 : goal.invariant_of-self-2
invariant_of-self-2 c = record {
  start = c.self.invariant.start;
  protected_end = c.self.invariant.protected_end;
  tables = c.self.invariant.tables;
  ram = rw c.in_ok-insert.ensures.entries (apart-insert c.self.inside.ram.entries 0 c.args.base c.args.top c.self.invariant.ram (omega arith) c.requires.some (rw (← c.self.view_is) at c.requires.fresh));
}
