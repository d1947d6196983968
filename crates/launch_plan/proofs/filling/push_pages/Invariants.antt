use Rattle.std.proofs.Common.{◌≡◌, ◌+◌, length, map}
use Rattle.std.specs.List.{range_with_len}
use Rattle.launch_plan.specs.Links.{key_after}
use Rattle.launch_plan.specs.inside.Filling.{AreAdded}
use Rattle.launch_plan.proofs.filling.push_pages.Given as goal

abbrev pub invariant-loop-number : goal.invariant-loop-number
invariant-loop-number l = record {
  added : AreAdded l.table (map (key_after l.key) (range_with_len 0 l.number)) l.initial.row.digests l.row.digests;
  count : length l.row.digests ≡ length l.initial.row.digests + l.number;
  room : l.row.room ≡ l.initial.row.room;
}
