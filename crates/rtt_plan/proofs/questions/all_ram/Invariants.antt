use Rattle.std.proofs.Common.{◌≡◌, ◌-◌, ◌%◌}
use Rattle.std.specs.List.{list_all}
use Rattle.rmm_model.specs.Blocks.{granules}
use Rattle.rmm_model.specs.Space.{is_ram}
use Rattle.rtt_plan.proofs.AllPagesAreRam.{pages_to}
use Rattle.rtt_plan.proofs.questions.all_ram.Given as goal

abbrev pub invariant-loop-x : goal.invariant-loop-x
invariant-loop-x l = record {
  at : l.x % 4096 ≡ 0;
  left : list_all (is_ram l.ram.entries) (granules (pages_to l.end l.x) l.x) ≡ list_all (is_ram l.ram.entries) (granules l.count l.base);
}

abbrev pub decreases-loop-x : goal.decreases-loop-x
decreases-loop-x l = l.end - l.x
