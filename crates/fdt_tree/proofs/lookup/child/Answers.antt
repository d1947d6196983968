use Rattle.std.proofs.Common.{◌≡◌, ℕ, List, true, false, sym, ap, ◌∙◌}
use Rattle.std.proofs.lemmas.List.{at_drop_all}
use Rattle.std.specs.Str.{bytes_eq}
use Rattle.fdt_tree.specs.declared.node.Node.{Node}
use Rattle.fdt_tree.specs.declared.node.Node.TheViews.{out-Node}
use Rattle.fdt_tree.specs.Devicetree.{joined, Branch}
use Rattle.fdt_tree.specs.NodeViews.{branches}
use Rattle.fdt_tree.specs.Lookup.{first_named}
use Rattle.fdt_tree.proofs.OpenNodes.{branch_out}
use Rattle.fdt_tree.proofs.NameLookup.{found, passed}
use Rattle.fdt_tree.proofs.lookup.child.Goals as goal

pub returns-then-eq : goal.returns-then-eq
returns-then-eq c = λ strings.
    let n = c.child-item.result in
    let same : bytes_eq (out-Node n).name.items c.args.name.now ≡ true =
    ap (λ (xs : List ℕ). bytes_eq xs c.args.name.now) (sym c.as_slice.ensures.value) ∙ sym c.eq.ensures ∙ c.if-eq.true in
    found strings c.args.name.now c.args.node.now n c.deref-child-items.result.now c.loop-child.child-index c.deref-child-items.ensures.value
    c.loop-child-test.true c.child-item.is same (c.loop-child.invariant strings)

pub loop-child-preserved : goal.loop-child-preserved
loop-child-preserved c = λ strings.
    let n = c.child-item.result in
    let other : bytes_eq (out-Node n).name.items c.args.name.now ≡ false =
    ap (λ (xs : List ℕ). bytes_eq xs c.args.name.now) (sym c.as_slice.ensures.value) ∙ sym c.eq.ensures ∙ c.if-eq.false in
    passed strings c.args.name.now n c.deref-child-items.result.now c.loop-child.child-index _ c.loop-child-test.true c.child-item.is other
    (c.loop-child.invariant strings)

pub returns : goal.returns
returns c = λ strings.
    let items = c.deref-child-items.result.now in
    sym (at_drop_all (λ (ns : List Node). first_named c.args.name.now (joined (branches strings ns))) items c.loop-child.child-index c.loop-child-test.false)
    ∙ c.loop-child.invariant strings
    ∙ ap (λ (ns : List Node). first_named c.args.name.now (joined (branches strings ns))) c.deref-child-items.ensures.value
    ∙ ap (λ (x : Branch). first_named c.args.name.now x.children) (sym (branch_out strings c.args.node.now))
