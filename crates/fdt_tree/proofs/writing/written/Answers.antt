use Rattle.std.proofs.Common.{◌≡◌, ◌<◌, ◌^◌, arith, ◌++◌, ◌∷◌, [], ℕ, List, IfOk, IfErr, length, ap, ◌∙◌, subst}
use Rattle.std.proofs.lemmas.Result.{err_from_is_err_and}
use Rattle.std.specs.Int.{w32, to_be_bytes}
use Rattle.fdt_tree.specs.declared.tree.Reservation.{Reservation}
use Rattle.fdt_tree.specs.Wholeness.{tree_in}
use Rattle.fdt_tree.specs.Writing.{text_after, names_after, strings_text, reservations_text, file_text, written}
use Rattle.fdt_tree.specs.inside.NameTables.{TooMuch}
use Rattle.fdt_tree.specs.inside.OutputViews.{size_of, tokens_of_nodes}
use Rattle.fdt_tree.proofs.WrittenTokens.{written_is, size_within}
use Rattle.fdt_tree.proofs.Faults.{more_than}
use Rattle.fdt_tree.proofs.WrittenFileIsSpelled.{again_if_ok}
use Rattle.fdt_tree.proofs.writing.written.Goals as goal

whole : (c : goal.After-drop-out-4)
    → file_text c.args.contents.now.boot_cpu (reservations_text c.deref-2.result.now) c.in_ok-out.out.structure.items c.in_ok-out.out.names.strings.items
    ≡ written (tree_in c.args.contents.now)
whole c =
    let t = c.args.contents.now in
    let o = c.in_ok-out.out in
    ap (λ (rs : List Reservation). file_text t.boot_cpu (reservations_text rs) o.structure.items o.names.strings.items) c.deref-2.ensures.value
    ∙ written_is t o.structure.items o.names.strings.items c.requires.unnamed
    (c.in_ok-out.ensures.structure ∙ ap (λ (s : List ℕ). text_after [] (tokens_of_nodes s (t.root ∷ [])) ++ to_be_bytes w32 9) c.deref.ensures.value)
    (c.in_ok-out.ensures.strings ∙ ap (λ (s : List ℕ). strings_text (names_after [] (tokens_of_nodes s (t.root ∷ [])))) c.deref.ensures.value)

pub returns-clause-done : goal.returns-clause-done
returns-clause-done c = subst (λ (x : List ℕ). IfOk c.assembled.result (λ v. v.items ≡ x)) (whole c) c.assembled.ensures.done

pub returns-clause-refused : goal.returns-clause-refused
returns-clause-refused c = subst (λ (x : List ℕ). IfErr c.assembled.result (λ e. TooMuch e (length x))) (whole c) c.assembled.ensures.refused

pub returns-in_err-out-clause-refused : goal.returns-in_err-out-clause-refused
returns-in_err-out-clause-refused c =
    let t = c.args.contents.now in
    let e = c.in_err-out.field-0.0 in
    let p = err_from_is_err_and c.from_residual.result c.from_residual.ensures.1 in
    rw (p.1, p.2) (more_than e (size_of [] (tokens_of_nodes t.strings.items (t.root ∷ []))) (length (written (tree_in t))) (size_within t c.requires.unnamed)
    (subst (λ (s : List ℕ). TooMuch e (size_of [] (tokens_of_nodes s (t.root ∷ [])))) c.deref.ensures.value c.in_err-out.ensures.refused))

pub returns-clause-again : goal.returns-clause-again
returns-clause-again c =
    let t = tree_in c.args.contents.now in
    let boot : t.boot_cpu < 2 ^ 32 = omega arith in
    again_if_ok c.assembled.result t c.requires.whole boot (returns-clause-done c)
