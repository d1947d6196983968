use Rattle.std.proofs.Common.{◌++◌, inl, inr, refl}
use Rattle.std.proofs.lemmas.Result.{err_from_is_err_and}
use Rattle.fdt_tree.specs.inside.MemoryViews.{cells_text}
use Rattle.fdt_tree.proofs.TreeEdits.{tree_kept}
use Rattle.fdt_tree.proofs.MemoryEdits.{memory_done, may_be_put, memory_refused, either_memory, either_memory_unnamed}
use Rattle.fdt_tree.proofs.tree.Tree.set_memory.Goals as goal

pub returns-in_err-reg : goal.returns-in_err-reg
returns-in_err-reg c =
    let t = c.args.self.now.contents in
    let p = err_from_is_err_and c.from_residual.result c.from_residual.ensures.1 in
    let e = rw c.deref.ensures.value at c.in_err-reg.ensures in
    rw (p.1, p.2) (inr (memory_refused c.args.base c.args.size t.strings.items t.reservations.items t.boot_cpu t.root c.in_err-reg.field-0.0 e), refl)

pub returns-in_err-put_memory : goal.returns-in_err-put_memory
returns-in_err-put_memory c =
    let t = c.args.self.now.contents in
    let r = c.from_residual-in_err-put_memory in
    let p = err_from_is_err_and r.result r.ensures.1 in
    let e = rw c.deref.ensures.value at c.in_ok-reg.ensures in
    let possible = may_be_put c.args.base c.args.size _ t.strings.items t.reservations.items t.boot_cpu t.root e in
    let kept = rw c.deref-2.ensures.value at c.in_err-put_memory.ensures.unchanged in
    rw (p.1, p.2) (inl (refl, possible), tree_kept t.strings.items t.reservations.items t.boot_cpu t.root c.put_memory.new.root kept)

pub invariant_of-self : goal.invariant_of-self
invariant_of-self c =
    let own = c.args.self.now in
    let t = own.contents in
    let reg = cells_text c.in_ok-reg.reg.0 ++ cells_text c.in_ok-reg.reg.1 in
    let done = rw c.deref-2.ensures.value at c.put_memory.ensures.done in
    let kept = rw c.deref-2.ensures.value at c.put_memory.ensures.unchanged in
    record {
      whole =
          either_memory c.put_memory.result c.args.base reg t.strings.items t.reservations.items t.boot_cpu t.root c.put_memory.new.root done kept own.whole;
      unnamed = either_memory_unnamed c.put_memory.result c.args.base reg t.strings.items t.root c.put_memory.new.root done kept own.unnamed;
    }

pub returns : goal.returns
returns c =
    let own = c.args.self.now in
    let t = own.contents in
    let reg = cells_text c.in_ok-reg.reg.0 ++ cells_text c.in_ok-reg.reg.1 in
    let e = rw c.deref.ensures.value at c.in_ok-reg.ensures in
    let done = rw c.deref-2.ensures.value at c.in_ok-put_memory.ensures.done in
    memory_done c.args.base c.args.size reg t.strings.items t.reservations.items t.boot_cpu t.root c.put_memory.new.root e own.unnamed done
