use Rattle.std.proofs.Common.{◌≡◌, take}
use Rattle.std.specs.List.{All}
use Rattle.launch_plan.specs.Fitting.{BeginsItem}
use Rattle.job_board.specs.inside.OwnStretches.{stretches_from}
use Rattle.job_board.proofs.own_needs.stretches_of.Given as goal

abbrev pub invariant-loop-launch : goal.invariant-loop-launch
invariant-loop-launch l = record {
  stretches : l.stretches.items ≡ stretches_from l.table.pages 0 (take l.launch l.plans);
  begin : All (λ p. All BeginsItem p.links) (take l.launch l.plans);
}
