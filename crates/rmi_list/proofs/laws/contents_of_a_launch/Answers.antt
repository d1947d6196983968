use Rattle.rmi_list.proofs.NoBytePastDigest.{contents-are-good}
use Rattle.rmi_list.proofs.laws.contents_of_a_launch.Goals as goal

pub returns : goal.returns
returns c = contents-are-good
