use Rattle.std.proofs.Common.{◌≡◌, ◌-◌, ◌++◌, map}
use Rattle.rtt_plan.specs.Places.{AtEntry}
use Rattle.rtt_plan.specs.Runs.{runs_from, runs_of}
use Rattle.launch_plan.specs.inside.Steps.{run_link}
use Rattle.launch_plan.proofs.reading.push_region.Given as goal

abbrev pub invariant-loop-x : goal.invariant-loop-x
invariant-loop-x l = record {
  at : AtEntry l.region.base l.region.end l.least_level l.x;
  left : l.links.items ++ map run_link (runs_from l.region.base l.region.end l.least_level l.x)
      ≡ l.initial.links.items ++ map run_link (runs_of l.region.base l.region.end l.least_level);
}

abbrev pub decreases-loop-x : goal.decreases-loop-x
decreases-loop-x l = l.region.end - l.x
