use Rattle.std.proofs.Common.{◌≡◌, ◌-◌, ◌≤◌, length, drop}
use Rattle.fdt_tree.specs.inside.NameRuns.{name_run, name_runs}
use Rattle.fdt_tree.proofs.reading.strings.runs_of.Given as goal

abbrev pub invariant-loop-done : goal.invariant-loop-done
invariant-loop-done l = record {
  run : l.run ≡ name_run (drop (length l.bytes - l.done) l.bytes);
  below : l.run ≤ l.done;
  runs : drop (length l.bytes - l.done) l.runs.items ≡ name_runs (drop (length l.bytes - l.done) l.bytes);
  len : length l.runs.items ≡ length l.bytes;
}
