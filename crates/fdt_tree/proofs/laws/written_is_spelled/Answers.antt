use Rattle.fdt_tree.proofs.WrittenFileIsSpelled.{written_again}
use Rattle.fdt_tree.proofs.laws.written_is_spelled.Goals as goal

pub returns : goal.returns
returns c = written_again
