use Rattle.std.proofs.Common.{List, ◌++◌, take}
use Rattle.std.proofs.lemmas.Result.{err_from_is_err_and}
use Rattle.fdt_tree.specs.Devicetree.{Token}
use Rattle.fdt_tree.specs.Writing.{names_after}
use Rattle.fdt_tree.specs.inside.OutputViews.{tokens_of_nodes}
use Rattle.fdt_tree.proofs.WrittenTokens.{front_of, front_fails, begun, child_put, child_fails, ended}
use Rattle.fdt_tree.proofs.writing.+put_node.Goals as goal

pub returns-in_err-put_node-clause-refused : goal.returns-in_err-put_node-clause-refused
returns-in_err-put_node-clause-refused t c =
    let p = err_from_is_err_and c.from_residual-in_err-put_node.result c.from_residual-in_err-put_node.ensures.1 in
    rw (p.1, p.2) (λ names h.
    let s = c.args.strings.now in
    let items = c.deref-child-items.result.now in
    let i = c.loop-child.child-index in
    let so_far : List Token = front_of s c.args.node.now ++ tokens_of_nodes s (take i items) in
    let k = c.loop-child.invariant names h in
    child_fails s c.args.node.now items i names c.child-item.result c.in_err-put_node.field-0.0 c.deref-child-items.ensures.value c.loop-child-test.true
    c.child-item.is (c.in_err-put_node.ensures.refused (names_after names so_far) k.known))

pub returns-in_err-put_front-clause-refused : goal.returns-in_err-put_front-clause-refused
returns-in_err-put_front-clause-refused t c =
    let p = err_from_is_err_and c.from_residual.result c.from_residual.ensures.1 in
    rw (p.1, p.2) (λ names h.
    front_fails c.args.strings.now c.args.node.now c.deref.result.now c.deref-2.result.now names c.in_err-put_front.field-0.0 c.deref.ensures.value
    c.deref-2.ensures.value (c.in_err-put_front.ensures.refused names h))

pub loop-child-init : goal.loop-child-init
loop-child-init t c = λ names h.
    begun c.args.strings.now c.args.node.now c.deref.result.now c.deref-2.result.now names c.args.out.now c.put_front.new.out c.deref.ensures.value
    c.deref-2.ensures.value (c.in_ok-put_front.ensures.done names h)

pub loop-child-preserved : goal.loop-child-preserved
loop-child-preserved t c = λ names h.
    let s = c.args.strings.now in
    let items = c.deref-child-items.result.now in
    let i = c.loop-child.child-index in
    let so_far : List Token = front_of s c.args.node.now ++ tokens_of_nodes s (take i items) in
    let k = c.loop-child.invariant names h in
    child_put s c.args.node.now items i names c.child-item.result c.args.out.now c.loop-child.out c.put_node.new.out c.loop-child-test.true c.child-item.is
    k (c.in_ok-put_node.ensures.done (names_after names so_far) k.known)

pub returns-clause-done : goal.returns-clause-done
returns-clause-done t c = λ names h.
    let s = c.args.strings.now in
    let items = c.deref-child-items.result.now in
    let i = c.loop-child.child-index in
    let so_far : List Token = front_of s c.args.node.now ++ tokens_of_nodes s (take i items) in
    let k = c.loop-child.invariant names h in
    ended s c.args.node.now items i names c.args.out.now c.loop-child.out c.put_node_end.new.out c.deref-child-items.ensures.value c.loop-child-test.false k
    (c.in_ok-put_node_end.ensures s (names_after names so_far) k.known)
