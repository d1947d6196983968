use Rattle.fdt_tree.proofs.UnrefusedIsSpelled.{bytes_fit}
use Rattle.fdt_tree.proofs.TreeAtIsSpelled.{spelled_tree, tree_spelled}
use Rattle.fdt_tree.proofs.laws.tree_at_is_spelled.Goals as goal

pub returns : goal.returns
returns c = λ bytes t all. (spelled_tree bytes t, tree_spelled bytes t (bytes_fit bytes all))
