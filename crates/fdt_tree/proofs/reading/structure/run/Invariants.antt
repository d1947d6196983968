use Rattle.std.proofs.Common.{◌≡◌, ◌-◌, ◌∷◌, [], length}
use Rattle.fdt_tree.specs.Devicetree.{begin_node}
use Rattle.refusal.specs.Answer.{with_front}
use Rattle.fdt_tree.specs.Scanning.{scan, start}
use Rattle.fdt_tree.specs.inside.OpenNodes.{so_far, place_of}
use Rattle.fdt_tree.proofs.reading.structure.run.Given as goal

abbrev pub invariant-loop : goal.invariant-loop
invariant-loop l =
    with_front (so_far l.strings.bytes.items l.nodes)
    (scan l.strings.bytes.items (length l.block - l.counter) (place_of l.strings.bytes.items l.nodes) l.rest) ≡ with_front (begin_node [] ∷ [])
    (scan l.strings.bytes.items (length l.block) start l.block)
