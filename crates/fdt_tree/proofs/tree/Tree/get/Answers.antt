use Rattle.std.proofs.Common.{ℕ, List, Option, ap, ◌∙◌}
use Rattle.std.specs.Prelude.{option_and_then}
use Rattle.fdt_tree.specs.Devicetree.{Branch}
use Rattle.fdt_tree.specs.NodeViews.{branch}
use Rattle.fdt_tree.specs.Lookup.{first_value, node_at}
use Rattle.fdt_tree.proofs.tree.Tree.get.Goals as goal

value_in : List ℕ → Option Branch → Option (List ℕ)
value_in name o = option_and_then (λ b. first_value name b.properties) o

pub returns-in_err-node : goal.returns-in_err-node
unfolding value_in
returns-in_err-node c =
    let strings = c.args.self.now.contents.strings.items in
    rw c.from_residual.ensures
    (ap (value_in c.args.name.now) (c.in_err-node.ensures strings)
    ∙ ap (λ (b : Branch). value_in c.args.name.now (node_at c.args.path.now b)) c.root.ensures)

pub returns : goal.returns
unfolding value_in
returns c =
    let strings = c.args.self.now.contents.strings.items in
    c.value_of.ensures
    ∙ ap (λ (xs : List ℕ). first_value c.args.name.now (branch xs c.in_ok-node.node.now).properties) c.strings.ensures
    ∙ ap (value_in c.args.name.now) (c.in_ok-node.ensures strings)
    ∙ ap (λ (b : Branch). value_in c.args.name.now (node_at c.args.path.now b)) c.root.ensures
