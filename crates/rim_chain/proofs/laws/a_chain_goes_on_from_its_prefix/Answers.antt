use Rattle.launch_plan.proofs.LinkByLink.{chain-cut}
use Rattle.rim_chain.proofs.laws.a_chain_goes_on_from_its_prefix.Goals as goal

pub returns : goal.returns
returns c = chain-cut
