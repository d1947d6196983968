use Rattle.rim_manifest.proofs.LowestFault.{refused_by_lowest}
use Rattle.rim_manifest.proofs.laws.the_lowest_fault_is_answered.Goals as goal

pub returns : goal.returns
returns c = refused_by_lowest
