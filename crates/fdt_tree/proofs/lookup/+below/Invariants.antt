use Rattle.std.proofs.Common.{length}
use Rattle.fdt_tree.proofs.lookup.+below.Given as goal

abbrev pub decreases-below : goal.decreases-below
decreases-below l = length l.names.now
