use Rattle.std.proofs.Common.{◌≡◌, drop, max}
use Rattle.map_rows.specs.Stretches.{last_end}
use Rattle.map_rows.proofs.stretches.last_end.Given as goal

-- the last end so far, and that of those that are left
abbrev pub invariant-loop-stretch : goal.invariant-loop-stretch
invariant-loop-stretch l = max l.end (last_end (drop l.stretch-index l.stretches)) ≡ last_end l.fn.stretches
