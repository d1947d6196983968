use Rattle.std.proofs.Common.{◌≡◌, ◌+◌, ◌≤◌, ℕ, get_or, length, take}
use Rattle.std.specs.List.{sum_by}
use Rattle.rmi_list.specs.inside.Spans.{commands_in}
use Rattle.rmi_list.proofs.plan.number.Given as goal

abbrev pub invariant-loop-span : goal.invariant-loop-span
invariant-loop-span l = record {
  count : length l.starts.items ≡ l.span-index + 1;
  at : (i : ℕ) → i ≤ l.span-index → get_or l.starts.items i 0 ≡ sum_by commands_in (take i l.spans);
  total : l.len ≡ sum_by commands_in (take l.span-index l.spans);
}
