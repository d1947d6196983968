use Rattle.std.proofs.Common.{◌++◌, ◌∷◌, [], ℕ, List, ap, ◌∙◌}
use Rattle.std.proofs.lemmas.Result.{err_from_is_err_and}
use Rattle.std.specs.Int.{w32, to_be_bytes}
use Rattle.fdt_tree.specs.Writing.{text_after}
use Rattle.fdt_tree.specs.inside.OutputViews.{tokens_of_nodes}
use Rattle.fdt_tree.proofs.writing.output_of.Goals as goal

pub returns-in_err-put_node-clause-refused : goal.returns-in_err-put_node-clause-refused
returns-in_err-put_node-clause-refused c =
    let p = err_from_is_err_and c.from_residual.result c.from_residual.ensures.1 in
    rw (p.1, p.2) (c.in_err-put_node.ensures.refused [] (c.new-2.ensures c.args.strings.now))

pub returns-clause-structure : goal.returns-clause-structure
returns-clause-structure c =
    let k = c.in_ok-put_node.ensures.done [] (c.new-2.ensures c.args.strings.now) in
    let text = text_after [] (tokens_of_nodes c.args.strings.now (c.args.root.now ∷ [])) in
    c.in_ok-put_word.ensures ∙ ap (λ (x : List ℕ). x ++ to_be_bytes w32 9) (k.text ∙ ap (λ (x : List ℕ). x ++ text) c.new.ensures.items)

pub returns-clause-strings : goal.returns-clause-strings
returns-clause-strings c = (c.in_ok-put_node.ensures.done [] (c.new-2.ensures c.args.strings.now)).known.strings
