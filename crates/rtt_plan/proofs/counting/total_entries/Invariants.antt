use Rattle.std.proofs.Common.{◌≡◌, ◌-◌, ◌+◌, ◌≤◌, length}
use Rattle.rtt_plan.specs.Entries.{entries, entries_from}
use Rattle.rtt_plan.specs.Places.{AtEntry}
use Rattle.rtt_plan.proofs.counting.total_entries.Given as goal

abbrev pub invariant-loop-x : goal.invariant-loop-x
invariant-loop-x l = record {
  at : AtEntry l.base l.end l.least_level l.x;
  total : l.total + length (entries_from l.base l.end l.least_level l.x) ≡ l.before + length (entries l.base l.end l.least_level);
  few : l.total ≤ 4194304;
}

abbrev pub decreases-loop-x : goal.decreases-loop-x
decreases-loop-x l = l.end - l.x
