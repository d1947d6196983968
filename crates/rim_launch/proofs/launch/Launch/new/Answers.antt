use Rattle.std.proofs.Common.{rules, tests}
use Rattle.rim_launch.specs.LaunchData.{is_launch}
use Rattle.rim_launch.proofs.launch.Launch.new.Goals as goal

pub invariant_of-result : goal.invariant_of-result
unfolding is_launch
invariant_of-result c = search (rules, tests)

pub returns-then-steps_complete : goal.returns-then-steps_complete
unfolding is_launch
returns-then-steps_complete c = search (rules, tests)

pub returns-else-within_limits : goal.returns-else-within_limits
unfolding is_launch
returns-else-within_limits c = search (rules, tests)
