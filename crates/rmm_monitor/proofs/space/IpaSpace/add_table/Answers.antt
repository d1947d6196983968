use Rattle.rmm_monitor.proofs.OneMoreTable.{formed-insert}
use Rattle.rmm_monitor.proofs.space.IpaSpace.add_table.Goals as goal

pub invariant_of-self-2 : goal.invariant_of-self-2
invariant_of-self-2 c = record {
  start = c.self.invariant.start;
  protected_end = c.self.invariant.protected_end;
  tables = rw c.in_ok-insert.ensures.keys (formed-insert c.self.inside.start c.args.level c.args.base c.self.inside.tables.keys c.self.invariant.tables
      (rw (← c.self.view_is) at c.requires.above) c.requires.deepest c.requires.multiple);
  ram = c.self.invariant.ram;
}
