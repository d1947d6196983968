use Rattle.std.proofs.Common.{rules}
use Rattle.rim_manifest.specs.Faults.{lower}
use Rattle.rim_manifest.proofs.fault.lower.Goals as goal

pub returns-in-Some : goal.returns-in-Some
unfolding lower
returns-in-Some c = search rules

pub returns-in_default : goal.returns-in_default
unfolding lower
returns-in_default c = search rules

pub returns-in_default-2 : goal.returns-in_default-2
unfolding lower
returns-in_default-2 c = search rules
