use Rattle.std.proofs.Common.{rules}
use Rattle.rim_manifest.proofs.FaultsInTurn.{lowest_last}
use Rattle.rim_manifest.proofs.fault_list.FaultList.add.Goals as goal

pub invariant_of-self-then-is_lower : goal.invariant_of-self-then-is_lower
invariant_of-self-then-is_lower c = record { own = search (rules, lowest_last) }
