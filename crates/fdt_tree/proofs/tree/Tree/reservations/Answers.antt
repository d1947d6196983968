use Rattle.fdt_tree.proofs.tree.Tree.reservations.Goals as goal

pub returns : goal.returns
returns c = c.as_slice.ensures.value
