use Rattle.std.proofs.Common.{◌+◌}
use Rattle.std.specs.Map.Iter.{deref_pair}
use Rattle.std.specs.BTreeMap.Range.{range_contains}
use Rattle.std.specs.Ordering.{nat_cmp}
use Rattle.std.specs.declared.ops.Bound.TheVariants.{Included, Unbounded}
use Rattle.rmm_model.proofs.LastMeets.{last-meets, none-meets, begins-up_to}
use Rattle.rmm_monitor.proofs.space.IpaSpace.meets_ram.Goals as goal

pub returns-in-Some : goal.returns-in-Some
returns-in-Some c = rw (← c.self.view_is)
    (last-meets deref_pair (λ e. range_contains nat_cmp Unbounded (Included c.args.last) e.0) c.self.inside.ram.entries
    c.range.result c.next_back.new.self c.next_back.result (c.in-Some.field-0-0, c.in-Some.top) c.args.base (c.args.last + 1)
    c.self.invariant.ram (begins-up_to c.args.last) (c.range.ensures.between tt) c.in-Some.is c.next_back.ensures.steps)

pub returns-in-None : goal.returns-in-None
returns-in-None c = rw (← c.self.view_is)
    (none-meets deref_pair (λ e. range_contains nat_cmp Unbounded (Included c.args.last) e.0) c.self.inside.ram.entries
    c.range.result c.next_back.new.self c.next_back.result c.args.base (c.args.last + 1)
    (begins-up_to c.args.last) (c.range.ensures.between tt) c.in-None.is c.next_back.ensures.steps)
