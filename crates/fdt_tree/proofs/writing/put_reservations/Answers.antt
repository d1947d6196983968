use Rattle.std.proofs.Common.{List, ◌++◌, sym, ◌∙◌}
use Rattle.std.proofs.lemmas.List.{at_drop_all}
use Rattle.fdt_tree.specs.declared.tree.Reservation.{Reservation}
use Rattle.fdt_tree.specs.Writing.{reservations_text}
use Rattle.fdt_tree.proofs.writing.put_reservations.Goals as goal

pub returns : goal.returns
returns c =
    c.in_ok-put_pair-2.ensures
    ∙ sym (at_drop_all (λ (rs : List Reservation). c.loop-pair.out.items
    ++ reservations_text rs) c.args.reservations.now c.loop-pair.pair-index c.loop-pair-test.false)
    ∙ c.loop-pair.invariant
