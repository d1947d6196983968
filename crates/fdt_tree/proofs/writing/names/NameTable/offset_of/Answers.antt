use Rattle.std.proofs.Common.{◌≡◌, ℕ, List, IfOk, IfErr, length, sym, ap, subst, ◌∙◌}
use Rattle.fdt_tree.specs.Writing.{noted, strings_text, offset_in}
use Rattle.fdt_tree.specs.NodeViews.{name_of}
use Rattle.fdt_tree.specs.inside.NameTables.{TooMuch}
use Rattle.fdt_tree.proofs.writing.names.NameTable.offset_of.Goals as goal

own : (c : goal.After-offset_of_bytes) → c.deref.result.now ≡ name_of c.args.source.now c.args.name.now
own c = c.deref.ensures.value ∙ sym (ap (name_of c.args.source.now) c.in-Own.is)

pub returns-in-Own-clause-offset : goal.returns-in-Own-clause-offset
returns-in-Own-clause-offset c = λ names h.
    subst (λ (name : List ℕ). IfOk c.offset_of_bytes.result (λ at. at ≡ offset_in (noted names name) name)) (own c)
    (c.offset_of_bytes.ensures.offset c.args.source.now names h)

pub returns-in-Own-clause-refused : goal.returns-in-Own-clause-refused
returns-in-Own-clause-refused c = λ names h.
    subst (λ (name : List ℕ). IfErr c.offset_of_bytes.result (λ e. TooMuch e (length (strings_text (noted names name))))) (own c)
    (c.offset_of_bytes.ensures.refused c.args.source.now names h)
