use Rattle.std.proofs.Common.{ℕ, take}
use Rattle.job_board.specs.inside.Grouping.{AreStretches, IsGrouped}
use Rattle.job_board.proofs.grouping.grouped.Given as goal

abbrev pub invariant-loop-stretch : goal.invariant-loop-stretch
invariant-loop-stretch l = (pages launches : ℕ) → AreStretches pages launches l.stretches → IsGrouped pages launches (take l.stretch-index l.stretches) l.groups.items
