use Rattle.std.proofs.Common.{◌-◌}
use Rattle.rtt_plan.proofs.LargestBlocks.{block-fits, first_fit-from, first_fit-least}
use Rattle.rtt_plan.proofs.laws.blocks_are_the_largest.Goals as goal

pub returns-clause-inside : goal.returns-clause-inside
returns-clause-inside c = block-fits

pub returns-clause-allowed : goal.returns-clause-allowed
returns-clause-allowed c base end least_level x = first_fit-from base end (3 - least_level) least_level x

pub returns-clause-largest : goal.returns-clause-largest
returns-clause-largest c base end least_level level x = first_fit-least base end (3 - least_level) least_level level x
