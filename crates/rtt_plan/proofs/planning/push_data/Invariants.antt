use Rattle.std.proofs.Common.{◌≡◌, ◌+◌, ◌*◌, ◌%◌, ◌≤◌, ◌^◌}
use Rattle.rmm_model.specs.Blocks.{granules}
use Rattle.rtt_plan.specs.Missing.{page_acts, page_tables}
use Rattle.rtt_plan.specs.inside.Undone.{undone}
use Rattle.rtt_plan.proofs.ActsStepByStep.{IsPlanning}
use Rattle.rtt_plan.proofs.planning.push_data.Given as goal

abbrev pub invariant-loop-left : goal.invariant-loop-left
invariant-loop-left l = record {
  whole : l.page % 4096 ≡ 0;
  small : l.page + 4096 * l.left ≤ 2 ^ 47;
  undone_so_far : undone l.acts.items l.tables.keys ≡ undone l.initial.acts.items l.initial.tables.keys;
  planning : IsPlanning l.initial.acts.items (page_acts l.start l.initial.tables.keys (granules l.count l.base))
      l.acts.items (page_acts l.start l.tables.keys (granules l.left l.page))
      (page_tables l.start l.initial.tables.keys (granules l.count l.base))
      (page_tables l.start l.tables.keys (granules l.left l.page));
}

abbrev pub decreases-loop-left : goal.decreases-loop-left
decreases-loop-left l = l.left
