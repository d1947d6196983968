use Rattle.std.proofs.Common.{refl}
use Rattle.fdt_tree.specs.declared.node.Node.TheViews.{out-Node}
use Rattle.fdt_tree.proofs.OpenNodes.{child_step}
use Rattle.fdt_tree.proofs.reading.structure.with_child.Goals as goal

pub returns : goal.returns
returns c = λ strings.
    let node = out-Node c.args.node in
    child_step strings c.args.node c.args.child
    (record { name = node.name; properties = node.properties; children = c.push.new.self }) refl refl c.in_ok-push.ensures.items
