use Rattle.std.proofs.Common.{ℕ, ◌+◌, List, Option, drop, sym, ap, ◌∙◌}
use Rattle.std.proofs.lemmas.List.{take_rest}
use Rattle.std.specs.Prelude.{option_and_then}
use Rattle.fdt_tree.specs.Devicetree.{Branch}
use Rattle.fdt_tree.specs.NodeViews.{branch}
use Rattle.fdt_tree.specs.Lookup.{between_slashes, node_below}
use Rattle.fdt_tree.proofs.NameLookup.{last_name, next_name}
use Rattle.fdt_tree.proofs.lookup.+below.Goals as goal

pub returns-in-None : goal.returns-in-None
returns-in-None t c = λ strings.
    let h = last_name c.args.names.now (branch strings c.args.node.now) c.in-None.ensures.exact in
    c.child.ensures strings ∙ sym h

pub returns-in_err-child-in-Some : goal.returns-in_err-child-in-Some
returns-in_err-child-in-Some t c = λ strings.
    let h = next_name c.args.names.now (branch strings c.args.node.now) c.in-Some.at c.in-Some.ensures.exact in
    let e = c.in_err-child-in-Some.ensures strings in
    rw c.from_residual.ensures (ap (option_and_then (node_below (between_slashes (drop (c.in-Some.at + 1) c.args.names.now)))) e ∙ sym h)

pub returns-in_ok-child-in-Some : goal.returns-in_ok-child-in-Some
returns-in_ok-child-in-Some t c = λ strings.
    let h = next_name c.args.names.now (branch strings c.args.node.now) c.in-Some.at c.in-Some.ensures.exact in
    let e = c.in_ok-child-in-Some.ensures strings in
    let rest : List ℕ → Option Branch = λ xs. node_below (between_slashes xs) (branch strings c.in_ok-child-in-Some.field-0.now) in
    c.below.ensures strings ∙ ap rest (take_rest c.args.names.now (c.in-Some.at + 1))
    ∙ ap (option_and_then (node_below (between_slashes (drop (c.in-Some.at + 1) c.args.names.now)))) e ∙ sym h
