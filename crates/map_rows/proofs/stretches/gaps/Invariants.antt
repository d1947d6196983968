use Rattle.std.proofs.Common.{◌≡◌, ◌++◌, drop}
use Rattle.map_rows.specs.Stretches.{gaps_of}
use Rattle.map_rows.proofs.stretches.gaps.Given as goal

-- the gaps so far, and those that the stretches leave that are left
abbrev pub invariant-loop-stretch : goal.invariant-loop-stretch
invariant-loop-stretch l = l.gaps.items ++ gaps_of l.at l.end (drop l.stretch-index l.rising) ≡ gaps_of l.fn.base l.fn.end l.fn.rising
