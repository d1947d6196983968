-- What contracts see of a tree in memory. This project's choice.
use Rattle.std.specs.Prelude.{ℕ, List}
use Rattle.fdt_tree.specs.declared.tree.Tree.{Tree}
use Rattle.fdt_tree.specs.Devicetree.{Devicetree}
use Rattle.fdt_tree.specs.Wholeness.{tree_in}

abbrev pub devicetree_of : Tree → Devicetree
devicetree_of t = tree_in t.contents

-- the bytes that names are ranges of
abbrev pub strings_of : Tree → List ℕ
strings_of t = t.contents.strings.items
