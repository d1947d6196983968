use Rattle.std.proofs.Common.{rules}
use Rattle.fdt_tree.specs.Scanning.{begin_at}
use Rattle.fdt_tree.proofs.reading.lexing.begin_of.Goals as goal

pub returns-then-not-legal : goal.returns-then-not-legal
unfolding begin_at
returns-then-not-legal c = search rules

pub returns-then-place-ge-DEPTH_LIMIT : goal.returns-then-place-ge-DEPTH_LIMIT
unfolding begin_at
returns-then-place-ge-DEPTH_LIMIT c = search rules

pub returns : goal.returns
unfolding begin_at
returns c = search rules
