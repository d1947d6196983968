use Rattle.fdt_tree.proofs.ReadIsSpelled.{one_tree}
use Rattle.fdt_tree.proofs.laws.one_tree.Goals as goal

pub returns : goal.returns
returns c = one_tree
