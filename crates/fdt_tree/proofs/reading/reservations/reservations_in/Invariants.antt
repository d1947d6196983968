use Rattle.std.proofs.Common.{◌≡◌, ◌-◌, length}
use Rattle.refusal.specs.Answer.{with_front}
use Rattle.fdt_tree.specs.Reservations.{pairs_at}
use Rattle.fdt_tree.proofs.reading.reservations.reservations_in.Given as goal

abbrev pub invariant-loop : goal.invariant-loop
invariant-loop l = with_front l.reservations.items (pairs_at (length l.block - l.counter) l.rest) ≡ pairs_at (length l.block) l.block
