use Rattle.fdt_tree.specs.inside.EditViews.{names_len}
use Rattle.fdt_tree.proofs.edits.+put_below.Given as goal

abbrev pub decreases-put_below : goal.decreases-put_below
decreases-put_below l = names_len l.names
