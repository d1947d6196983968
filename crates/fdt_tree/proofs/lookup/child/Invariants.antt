use Rattle.std.proofs.Common.{◌≡◌, ℕ, List, drop}
use Rattle.fdt_tree.specs.Devicetree.{joined}
use Rattle.fdt_tree.specs.NodeViews.{branches}
use Rattle.fdt_tree.specs.Lookup.{first_named}
use Rattle.fdt_tree.proofs.lookup.child.Given as goal

abbrev pub invariant-loop-child : goal.invariant-loop-child
invariant-loop-child l =
    (strings : List ℕ) → first_named l.name (joined (branches strings (drop l.child-index l.child-items))) ≡ first_named l.name
    (joined (branches strings l.child-items))
