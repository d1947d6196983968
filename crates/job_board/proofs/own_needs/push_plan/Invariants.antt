use Rattle.std.proofs.Common.{◌≡◌, ◌++◌, drop}
use Rattle.std.specs.List.{flat_map}
use Rattle.job_board.specs.inside.OwnStretches.{link_stretches}
use Rattle.job_board.proofs.own_needs.push_plan.Given as goal

abbrev pub invariant-loop-link : goal.invariant-loop-link
invariant-loop-link l =
    l.stretches.items ++ flat_map (link_stretches l.table.pages l.launch) (drop l.link-index l.link-items)
    ≡ l.initial.stretches.items ++ flat_map (link_stretches l.table.pages l.launch) l.link-items
