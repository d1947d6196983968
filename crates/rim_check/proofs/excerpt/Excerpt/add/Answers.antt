use Rattle.std.proofs.Common.{rules}
use Rattle.rim_manifest.proofs.FaultsInTurn.{is_lowest, lowest_last, not_lower}
use Rattle.rim_check.proofs.FindingLines.{some-longer, some-next}
use Rattle.rim_check.proofs.excerpt.Excerpt.add.Goals as goal

pub returns-then-is_lower : goal.returns-then-is_lower
returns-then-is_lower c = search (rules, is_lowest, some-next)

pub returns-in_ok-push-in-Own : goal.returns-in_ok-push-in-Own
returns-in_ok-push-in-Own c = search (rules, not_lower, some-next)

pub returns-in-Repeated : goal.returns-in-Repeated
returns-in-Repeated c = search (rules, not_lower, some-longer)

pub returns-in-PastLimit : goal.returns-in-PastLimit
returns-in-PastLimit c = search (rules, not_lower, some-longer)

pub invariant_of-self-then-is_lower : goal.invariant_of-self-then-is_lower
invariant_of-self-then-is_lower c = record { own = search (rules, lowest_last, is_lowest) }

pub invariant_of-self-in-Own : goal.invariant_of-self-in-Own
invariant_of-self-in-Own c = record { own = search (rules, lowest_last, not_lower) }
