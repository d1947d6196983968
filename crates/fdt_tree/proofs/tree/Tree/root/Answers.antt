use Rattle.std.proofs.Common.{ℕ, List, ap}
use Rattle.fdt_tree.specs.Devicetree.{Branch}
use Rattle.fdt_tree.specs.NodeViews.{branch}
use Rattle.fdt_tree.proofs.tree.Tree.root.Goals as goal

pub returns : goal.returns
returns c =
    let own = c.args.self.now in
    let b = branch own.contents.strings.items own.contents.root in
    ap (λ (x : List ℕ). let r : Branch = record { name = x; properties = b.properties; children = b.children } in r) own.unnamed
