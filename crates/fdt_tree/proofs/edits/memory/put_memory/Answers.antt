use Rattle.std.proofs.Common.{ℕ, List, refl, ap, ◌∙◌}
use Rattle.fdt_tree.specs.NodeViews.{branch}
use Rattle.fdt_tree.specs.Memory.{names_memory, reg_put, new_memory, memory_put}
use Rattle.fdt_tree.proofs.NodeEdits.{edited_found, kept_found, edited_pushed, on_ok, on_err}
use Rattle.fdt_tree.proofs.edits.memory.put_memory.Goals as goal

pub returns-in-Some-clause-done : goal.returns-in-Some-clause-done
returns-in-Some-clause-done c =
    let s = c.args.strings.now in
    let n = c.args.root.now in
    let reg = c.deref-in-Some.result.now in
    let whole = ap (λ (xs : List ℕ). memory_put c.args.base xs (branch s n)) (c.deref-in-Some.ensures.value ∙ c.in_ok-value.ensures) in
    on_ok c.put_below.result _ _
    (λ e. edited_found s names_memory (reg_put reg) (new_memory c.args.base reg) n _ c.in-Some.at c.index_mut.result.now c.put_below.new.node refl refl refl
    (rw c.deref.ensures.value at c.in-Some.ensures.exact) c.index_mut.ensures.value e ∙ whole)
    c.put_below.ensures.done

pub returns-in-Some-clause-unchanged : goal.returns-in-Some-clause-unchanged
returns-in-Some-clause-unchanged c =
    let within = rw c.deref.ensures.value at c.in-Some.ensures.within in
    on_err c.put_below.result _ _
    (λ e. kept_found c.args.strings.now c.args.root.now _ c.in-Some.at c.index_mut.result.now c.put_below.new.node refl refl refl within
    c.index_mut.ensures.value e)
    c.put_below.ensures.unchanged

pub returns-clause-done : goal.returns-clause-done
returns-clause-done c =
    let s = c.args.strings.now in
    let n = c.args.root.now in
    let reg = c.deref-in-None.result.now in
    let whole = ap (λ (xs : List ℕ). memory_put c.args.base xs (branch s n)) (c.deref-in-None.ensures.value ∙ c.in_ok-value.ensures) in
    edited_pushed s names_memory (reg_put reg) (new_memory c.args.base reg) n c.in_ok-node-in-None.node _ refl refl c.in_ok-push-in-None.ensures.items
    (rw c.deref.ensures.value at c.in-None.ensures.exact) c.in_ok-node-in-None.ensures ∙ whole
