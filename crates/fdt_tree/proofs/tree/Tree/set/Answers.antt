use Rattle.std.proofs.Common.{inl, inr, refl}
use Rattle.std.proofs.lemmas.Result.{err_from_is_err_and}
use Rattle.fdt_tree.specs.Trees.{devicetree_of}
use Rattle.fdt_tree.specs.inside.EditViews.{names_in}
use Rattle.fdt_tree.proofs.TreeEdits.{set_done, either_whole, either_unnamed, path_refused, name_refused, may_be_set, tree_kept}
use Rattle.fdt_tree.proofs.tree.Tree.set.Goals as goal

pub returns-in_err-names : goal.returns-in_err-names
returns-in_err-names c =
    let p = err_from_is_err_and c.from_residual.result c.from_residual.ensures.1 in
    rw (p.1, p.2) (
      inr (path_refused c.args.path.now c.args.name.now c.args.value.now
          (devicetree_of c.args.self.now) c.in_err-names.field-0.0 c.in_err-names.ensures),
      refl,
    )

pub returns-in_err-check_names : goal.returns-in_err-check_names
returns-in_err-check_names c =
    let r = c.from_residual-in_err-check_names in
    let p = err_from_is_err_and r.result r.ensures.1 in
    rw (p.1, p.2) (
      inr (name_refused c.args.path.now c.args.name.now c.args.value.now (names_in c.in_ok-names.names)
          (devicetree_of c.args.self.now) c.in_err-check_names.field-0.0 c.in_ok-names.ensures c.in_err-check_names.ensures),
      refl,
    )

pub returns-in_err-put_below : goal.returns-in_err-put_below
returns-in_err-put_below c =
    let t = c.args.self.now.contents in
    let r = c.from_residual-in_err-put_below in
    let p = err_from_is_err_and r.result r.ensures.1 in
    let possible =
    may_be_set c.args.path.now c.args.name.now c.args.value.now (names_in c.in_ok-names.names)
    (devicetree_of c.args.self.now) c.in_ok-check_names.field-0 c.in_ok-names.ensures c.in_ok-check_names.ensures in
    let kept = rw c.deref.ensures.value at c.in_err-put_below.ensures.unchanged in
    rw (p.1, p.2) (inl (refl, possible), tree_kept t.strings.items t.reservations.items t.boot_cpu t.root c.put_below.new.node kept)

pub invariant_of-self : goal.invariant_of-self
invariant_of-self c =
    let own = c.args.self.now in
    let t = own.contents in
    let names = names_in c.in_ok-names.names in
    let done = rw c.deref.ensures.value at c.put_below.ensures.done in
    let kept = rw c.deref.ensures.value at c.put_below.ensures.unchanged in
    record {
      whole =
          either_whole c.put_below.result c.args.name.now c.args.value.now t.strings.items names t.reservations.items t.boot_cpu t.root c.put_below.new.node
          c.in_ok-check_names.field-0 c.in_ok-check_names.ensures done kept own.whole;
      unnamed = either_unnamed c.put_below.result c.args.name.now c.args.value.now t.strings.items names t.root c.put_below.new.node done kept own.unnamed;
    }

pub returns : goal.returns
returns c =
    let own = c.args.self.now in
    let t = own.contents in
    let done = rw c.deref.ensures.value at c.in_ok-put_below.ensures.done in
    set_done c.args.path.now c.args.name.now c.args.value.now t.strings.items
    (names_in c.in_ok-names.names) t.reservations.items t.boot_cpu t.root c.put_below.new.node c.in_ok-check_names.field-0 c.in_ok-names.ensures
    c.in_ok-check_names.ensures own.unnamed done
