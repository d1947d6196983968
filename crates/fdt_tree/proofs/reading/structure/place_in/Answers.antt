use Rattle.std.proofs.Common.{◌≡◌, length, arith, refl}
use Rattle.fdt_tree.specs.declared.node.Node.TheViews.{out-Node}
use Rattle.fdt_tree.proofs.OpenNodes.{late_is}
use Rattle.fdt_tree.proofs.reading.structure.place_in.Goals as goal

pub returns : goal.returns
returns c = λ strings.
    let nodes = c.args.nodes.now in
    let v = (out-Node nodes.current).children in
    let deep : c.len.result ≡ length nodes.outer.items = omega (arith, c.len.ensures, nodes.outer.ok.0) in
    let many : c.len-2.result ≡ length v.items = omega (arith, c.len-2.ensures, v.ok.0) in
    rw (deep, many, late_is strings nodes.current) refl
