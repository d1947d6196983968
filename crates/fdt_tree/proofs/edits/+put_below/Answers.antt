use Rattle.std.proofs.Common.{◌≡◌, ◌∷◌, ℕ, List, refl, sym, ap, ◌∙◌, arith}
use Rattle.fdt_tree.specs.Devicetree.{Branch, bare}
use Rattle.fdt_tree.specs.NodeViews.{branch}
use Rattle.std.specs.Str.{bytes_eq}
use Rattle.fdt_tree.specs.Edits.{edited_below, value_put}
use Rattle.fdt_tree.specs.inside.EditViews.{names_in, names_len}
use Rattle.fdt_tree.proofs.NodeEdits.{edited_found, kept_found, edited_pushed, on_ok, on_err}
use Rattle.fdt_tree.proofs.edits.+put_below.Goals as goal

pub put_below-requires : goal.put_below-requires
put_below-requires t c = (omega (arith, c.split_names.ensures.shorter, ap names_len c.in-Some.is, c.decreases), tt)

pub put_below-requires-in-None : goal.put_below-requires-in-None
put_below-requires-in-None t c = (omega (arith, c.split_names.ensures.shorter, ap names_len c.in-Some.is, c.decreases), tt)

pub returns-in-Some-child_index-clause-done : goal.returns-in-Some-child_index-clause-done
returns-in-Some-child_index-clause-done t c =
    let s = c.args.strings.now in
    let n = c.args.node.now in
    let put : Branch → Branch = value_put c.args.name.now c.args.value.now in
    let first = c.split_names.result.0.now in
    let rest = names_in c.split_names.result.1 in
    let split : names_in c.args.names ≡ c.split_names.result.0.now ∷ rest = ap names_in c.in-Some.is ∙ c.split_names.ensures.parts in
    let whole = ap (λ (ns : List (List ℕ)). edited_below ns put (branch s n)) split in
    on_ok c.put_below.result _ _
    (λ e. edited_found s (λ x. bytes_eq x first) (edited_below rest put)
    (edited_below rest put (bare first)) n _ c.in-Some-child_index.at c.index_mut.result.now c.put_below.new.node refl refl refl
    (rw c.deref.ensures.value at c.in-Some-child_index.ensures.exact) c.index_mut.ensures.value e ∙ sym whole)
    c.put_below.ensures.done

pub returns-in-Some-child_index-clause-unchanged :
    goal.returns-in-Some-child_index-clause-unchanged
returns-in-Some-child_index-clause-unchanged t c =
    let within = rw c.deref.ensures.value at c.in-Some-child_index.ensures.within in
    on_err c.put_below.result _ _
    (λ e. kept_found c.args.strings.now c.args.node.now _ c.in-Some-child_index.at c.index_mut.result.now c.put_below.new.node refl refl refl within
    c.index_mut.ensures.value e)
    c.put_below.ensures.unchanged

pub returns-in_ok-push-in-None-clause-done : goal.returns-in_ok-push-in-None-clause-done
returns-in_ok-push-in-None-clause-done t c =
    let s = c.args.strings.now in
    let n = c.args.node.now in
    let put : Branch → Branch = value_put c.args.name.now c.args.value.now in
    let first = c.split_names.result.0.now in
    let rest = names_in c.split_names.result.1 in
    let split : names_in c.args.names ≡ c.split_names.result.0.now ∷ rest = ap names_in c.in-Some.is ∙ c.split_names.ensures.parts in
    let whole = ap (λ (ns : List (List ℕ)). edited_below ns put (branch s n)) split in
    let made = c.in_ok-put_below-in-None.ensures.done ∙ ap (λ (b : Branch). edited_below rest put b) (c.in_ok-child-in-None.ensures s) in
    edited_pushed s (λ x. bytes_eq x first) (edited_below rest put)
    (edited_below rest put (bare first)) n c.put_below-in-None.new.node _ refl refl c.in_ok-push-in-None.ensures.items
    (rw c.deref.ensures.value at c.in-None.ensures.exact) made ∙ sym whole
