use Rattle.std.proofs.Common.{◌≡◌, ℕ, List, None, IfErr, length, sym, subst, ◌∙◌}
use Rattle.fdt_tree.specs.Writing.{strings_text}
use Rattle.fdt_tree.specs.inside.NameTables.{HasNames, TooMuch, place_in}
use Rattle.fdt_tree.proofs.NameTables.{offset_ok, noted_new}
use Rattle.fdt_tree.proofs.writing.names.NameTable.offset_of_bytes.Goals as goal

missing : (c : goal.After-add) (source : List ℕ) (names : List (List ℕ)) → HasNames source c.args.self.now names → place_in names c.args.name.now ≡ None
missing c source names h = sym (h.offsets c.args.name.now) ∙ sym c.get.ensures.value ∙ sym c.in-None.ensures

pub returns-in-None-clause-offset : goal.returns-in-None-clause-offset
returns-in-None-clause-offset c = λ source names h.
    offset_ok c.add.result names c.args.name.now (missing c source names h) (c.add.ensures.offset source names h)

pub returns-in-None-clause-refused : goal.returns-in-None-clause-refused
returns-in-None-clause-refused c = λ source names h.
    subst (λ (ns : List (List ℕ)). IfErr c.add.result (λ e. TooMuch e (length (strings_text ns))))
    (sym (noted_new names c.args.name.now (missing c source names h))) (c.add.ensures.refused source names h)
