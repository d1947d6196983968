use Rattle.fdt_tree.proofs.tree.Tree.strings.Goals as goal

pub returns : goal.returns
returns c = c.as_slice.ensures.value
