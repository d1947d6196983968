use Rattle.std.proofs.Common.{arith, rules}
use Rattle.std.proofs.lemmas.Grind.{common_steps}
use Rattle.std.proofs.lemmas.List.{drop_min}
use Rattle.fdt_tree.specs.Scanning.{padded_at}
use Rattle.fdt_tree.proofs.reading.lexing.padded_of.Goals as goal

pub returns-then-bytes-len : goal.returns-then-bytes-len
unfolding padded_at
returns-then-bytes-len c = search rules

pub returns : goal.returns
unfolding padded_at
returns c = grind (arith, common_steps, drop_min)
