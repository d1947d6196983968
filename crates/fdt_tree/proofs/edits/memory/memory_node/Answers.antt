use Rattle.std.proofs.Common.{◌≡◌, refl, rules, ◌∙◌}
use Rattle.std.specs.String.{string_bytes}
use Rattle.fdt_tree.specs.Memory.{memory_name}
use Rattle.fdt_tree.proofs.edits.memory.memory_node.Goals as goal

pub returns : goal.returns
returns c =
    let name : string_bytes c.in_ok-name.name ≡ memory_name c.args.base = search rules in
    rw (c.in_ok-put_below-2.ensures.done, c.in_ok-put_below.ensures.done, c.in_ok-node.ensures c.args.strings.now, c.as_bytes.ensures.value ∙ name) refl
