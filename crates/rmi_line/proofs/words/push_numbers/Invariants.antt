use Rattle.std.proofs.Common.{◌≡◌, ◌++◌, map, take}
use Rattle.std.specs.List.{flat_map}
use Rattle.std.specs.Fmt.{decimal}
use Rattle.rmi_line.specs.inside.Words.{spaced}
use Rattle.rmi_line.proofs.words.push_numbers.Given as goal

abbrev pub invariant-loop-number : goal.invariant-loop-number
invariant-loop-number l = l.line.items ≡ l.initial.line.items ++ flat_map spaced (map decimal (take l.number-index l.numbers))
