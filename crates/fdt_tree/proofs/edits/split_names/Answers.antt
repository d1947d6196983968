use Rattle.std.proofs.Common.{◌+◌, ◌∷◌, List, ℕ, take, sym, ap, ◌∙◌}
use Rattle.std.proofs.lemmas.List.{take_rest}
use Rattle.fdt_tree.specs.Lookup.{between_slashes}
use Rattle.fdt_tree.proofs.NameLookup.{no_slash, first_slash}
use Rattle.fdt_tree.proofs.edits.split_names.Goals as goal

pub returns-in-None-clause-parts : goal.returns-in-None-clause-parts
returns-in-None-clause-parts c = no_slash c.args.names.now c.in-None.ensures.exact

pub returns-in-Some-clause-parts : goal.returns-in-Some-clause-parts
returns-in-Some-clause-parts c =
    first_slash c.args.names.now c.in-Some.at c.in-Some.ensures.exact
    ∙ ap (λ (xs : List ℕ). take c.in-Some.at c.args.names.now ∷ between_slashes xs) (sym (take_rest c.args.names.now (c.in-Some.at + 1)))
