use Rattle.std.proofs.Common.{◌≡◌}
use Rattle.rtt_plan.specs.inside.Undone.{undone}
use Rattle.rtt_plan.proofs.MissingTablesAdded.{IsAdding}
use Rattle.rtt_plan.proofs.missing.push_missing.Given as goal

abbrev pub invariant-loop-above : goal.invariant-loop-above
invariant-loop-above l = record {
  adding : IsAdding l.start l.level l.x l.initial.tables.keys l.initial.acts.items l.above l.tables.keys l.acts.items;
  undone_so_far : undone l.acts.items l.tables.keys ≡ undone l.initial.acts.items l.initial.tables.keys;
}
