use Rattle.std.proofs.Common.{◌≡◌, ◌-◌}
use Rattle.rtt_plan.specs.Places.{AtEntry}
use Rattle.rtt_plan.specs.Runs.{runs_from, runs_of}
use Rattle.rtt_plan.specs.Missing.{run_acts, run_tables}
use Rattle.rtt_plan.specs.inside.Undone.{undone}
use Rattle.rtt_plan.proofs.ActsStepByStep.{IsPlanning}
use Rattle.rtt_plan.proofs.planning.push_region.Given as goal

abbrev pub invariant-loop-x : goal.invariant-loop-x
invariant-loop-x l = record {
  at : AtEntry l.base l.end l.least_level l.x;
  undone_so_far : undone l.acts.items l.tables.keys ≡ undone l.initial.acts.items l.initial.tables.keys;
  planning : IsPlanning l.initial.acts.items (run_acts l.start l.initial.tables.keys (runs_of l.base l.end l.least_level))
      l.acts.items (run_acts l.start l.tables.keys (runs_from l.base l.end l.least_level l.x))
      (run_tables l.start l.initial.tables.keys (runs_of l.base l.end l.least_level))
      (run_tables l.start l.tables.keys (runs_from l.base l.end l.least_level l.x));
}

abbrev pub decreases-loop-x : goal.decreases-loop-x
decreases-loop-x l = l.end - l.x
