use Rattle.std.proofs.Common.{arith}
use Rattle.fdt_tree.specs.declared.node.Node.TheViews.{out-Node}
use Rattle.fdt_tree.proofs.SpellingOfScan.{IsBytes}
use Rattle.fdt_tree.proofs.RootAtEnd.{at_end, root_is, root_named, root_there}
use Rattle.fdt_tree.proofs.reading.structure.root_in.Goals as goal

pub returns-in-Some-clause-exact : goal.returns-in-Some-clause-exact
returns-in-Some-clause-exact c =
    let fits : IsBytes c.args.block.now = λ i. omega (arith, c.type_inv.block i) in
    let p = c.in_ok-current.field-0 in
    root_is c.args.strings.now.bytes.items c.args.block.now (out-Node p.current).children.items c.pop.new.self.items c.in-Some.root fits c.in-Some.ensures.items
    (at_end c.args.strings.now.bytes.items c.args.block.now p.outer.items p.current fits c.in_ok-current.ensures.outermost c.in_ok-current.ensures.exact)

pub returns-in-Some-clause-unnamed : goal.returns-in-Some-clause-unnamed
returns-in-Some-clause-unnamed c =
    let fits : IsBytes c.args.block.now = λ i. omega (arith, c.type_inv.block i) in
    let p = c.in_ok-current.field-0 in
    root_named c.args.strings.now.bytes.items c.args.block.now
    (out-Node p.current).children.items c.pop.new.self.items c.in-Some.root fits c.in-Some.ensures.items
    (at_end c.args.strings.now.bytes.items c.args.block.now p.outer.items p.current fits c.in_ok-current.ensures.outermost c.in_ok-current.ensures.exact)

pub returns-clause-exact : goal.returns-clause-exact
returns-clause-exact c =
    let fits : IsBytes c.args.block.now = λ i. omega (arith, c.type_inv.block i) in
    let p = c.in_ok-current.field-0 in
    let v = (out-Node p.current).children in
    root_there c.args.strings.now.bytes.items c.args.block.now v.items _ fits (omega (arith, c.in-None.ensures.cases, v.ok.0))
    (at_end c.args.strings.now.bytes.items c.args.block.now p.outer.items p.current fits c.in_ok-current.ensures.outermost c.in_ok-current.ensures.exact)
