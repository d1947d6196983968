use Rattle.std.proofs.Common.{◌≡◌, ◌-◌}
use Rattle.rtt_plan.specs.Entries.{block_level, first_fit}
use Rattle.rtt_plan.proofs.block.block_level.Given as goal

abbrev pub invariant-loop-level : goal.invariant-loop-level
invariant-loop-level l = first_fit l.base l.end (3 - l.level) l.level l.x ≡ block_level l.base l.end l.least_level l.x
