use Rattle.std.proofs.Common.{◌≡◌, ◌++◌, drop}
use Rattle.fdt_tree.specs.Writing.{reservations_text}
use Rattle.fdt_tree.proofs.writing.put_reservations.Given as goal

abbrev pub invariant-loop-pair : goal.invariant-loop-pair
invariant-loop-pair l = l.out.items ++ reservations_text (drop l.pair-index l.reservations) ≡ l.fn.out.items ++ reservations_text l.reservations
