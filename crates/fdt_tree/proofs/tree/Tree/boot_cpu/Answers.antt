use Rattle.std.proofs.Common.{refl}
use Rattle.fdt_tree.proofs.tree.Tree.boot_cpu.Goals as goal

pub returns : goal.returns
returns c = refl
