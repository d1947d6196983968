use Rattle.rim_manifest.proofs.LowestFault.{among_bad, among_none, among_two}
use Rattle.rim_manifest.proofs.naming.NameFaults.has.Goals as goal

pub returns-in-TwoNames : goal.returns-in-TwoNames
returns-in-TwoNames c = rw c.in-TwoNames.is (among_two _ _ _)

pub returns-in-NoSuchFile : goal.returns-in-NoSuchFile
returns-in-NoSuchFile c = rw c.in-NoSuchFile.is (among_none _ _ _)

pub returns-in-BadStep : goal.returns-in-BadStep
returns-in-BadStep c = rw c.in-BadStep.is (among_bad _ _ _)
