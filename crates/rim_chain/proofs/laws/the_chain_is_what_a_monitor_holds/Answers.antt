use Rattle.rim_chain.proofs.ChainsOfOwnPages.{chain-held}
use Rattle.rim_chain.proofs.laws.the_chain_is_what_a_monitor_holds.Goals as goal

pub returns : goal.returns
returns c = chain-held
