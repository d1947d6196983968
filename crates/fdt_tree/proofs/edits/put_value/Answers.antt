use Rattle.std.proofs.Common.{refl}
use Rattle.fdt_tree.proofs.NodeEdits.{value_put_found, value_pushed}
use Rattle.fdt_tree.proofs.edits.put_value.Goals as goal

pub returns-in-Some-clause-done : goal.returns-in-Some-clause-done
returns-in-Some-clause-done c =
    value_put_found c.args.strings.now c.args.name.now c.args.value.now c.args.properties.now.items c.in-Some.at c.index_mut.result.now _
    (rw c.deref.ensures.value at c.in-Some.ensures.exact) c.index_mut.ensures.value (rw c.in_ok-value.ensures.items refl)

pub returns-in_ok-push-in-None-clause-done : goal.returns-in_ok-push-in-None-clause-done
returns-in_ok-push-in-None-clause-done c =
    value_pushed c.args.strings.now c.args.name.now c.args.value.now c.args.properties.now.items _ _
    (rw c.deref.ensures.value at c.in-None.ensures.exact) c.in_ok-push-in-None.ensures.items
    (rw (c.in_ok-value.ensures.items, c.in_ok-from_slice-in-None.ensures.items) refl)
