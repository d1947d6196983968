use Rattle.std.proofs.Common.{ℕ, List, ◌++◌, take}
use Rattle.fdt_tree.specs.inside.NameTables.{HasNames}
use Rattle.fdt_tree.specs.inside.OutputViews.{HasTokens, tokens_of_nodes}
use Rattle.fdt_tree.proofs.WrittenTokens.{front_of}
use Rattle.fdt_tree.proofs.writing.+put_node.Given as goal

abbrev pub invariant-loop-child : goal.invariant-loop-child
invariant-loop-child l =
    (names : List (List ℕ)) → HasNames l.strings l.fn.out.names names
    → HasTokens l.strings l.fn.out l.out names (front_of l.strings l.fn.node ++ tokens_of_nodes l.strings (take l.child-index l.child-items))
