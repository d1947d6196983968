use Rattle.std.proofs.Common.{◌≡◌, ◌≤◌, ◌+◌, length}
use Rattle.fdt_tree.specs.Edits.{all_legal}
use Rattle.fdt_tree.specs.inside.EditViews.{names_in, names_len}
use Rattle.fdt_tree.proofs.edits.count_names.Given as goal

abbrev pub invariant-loop-left : goal.invariant-loop-left
invariant-loop-left l = record {
  fits : l.count + names_len l.left ≤ names_len l.fn.names;
  legal : all_legal (names_in l.left) ≡ all_legal (names_in l.fn.names);
  counted : l.count + length (names_in l.left) ≡ length (names_in l.fn.names);
}

abbrev pub decreases-loop-left : goal.decreases-loop-left
decreases-loop-left l = names_len l.left
