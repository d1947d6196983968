use Rattle.std.proofs.Common.{◌≡◌, take}
use Rattle.launch_plan.specs.Links.{keys_of}
use Rattle.launch_plan.specs.Rows.{IsRowOf}
use Rattle.launch_plan.proofs.plan.LaunchPlan.fill_row_on.Given as goal

abbrev pub invariant-loop-at : goal.invariant-loop-at
invariant-loop-at l = record {
  filled : IsRowOf l.table (keys_of (take l.at l.self.links)) l.row.digests;
  room : l.row.room ≡ l.initial.row.room;
}
