use Rattle.std.proofs.Common.{◌≡◌, map, take}
use Rattle.launch_plan.specs.Rows.{value_in}
use Rattle.rim_report.proofs.chains.chains_of_run.Given as goal

abbrev pub invariant-loop-number : goal.invariant-loop-number
invariant-loop-number g l = map (λ m. m.bytes) l.rims.items ≡ map (value_in l.table) (take l.number l.plans)
