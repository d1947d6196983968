use Rattle.std.proofs.Common.{◌≡◌, take}
use Rattle.fdt_tree.specs.inside.NameRuns.{zero_end}
use Rattle.fdt_tree.proofs.reading.strings.end_of.Given as goal

abbrev pub invariant-loop-i : goal.invariant-loop-i
invariant-loop-i l = l.end ≡ zero_end (take l.i l.bytes)
