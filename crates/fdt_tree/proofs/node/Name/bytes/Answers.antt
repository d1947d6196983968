use Rattle.std.proofs.Common.{rules}
use Rattle.fdt_tree.proofs.node.Name.bytes.Goals as goal

pub returns-in-Own : goal.returns-in-Own
returns-in-Own c = search rules
