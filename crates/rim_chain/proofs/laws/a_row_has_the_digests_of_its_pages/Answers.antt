use Rattle.rim_chain.proofs.ChainsOfOwnPages.{row-own}
use Rattle.rim_chain.proofs.laws.a_row_has_the_digests_of_its_pages.Goals as goal

pub returns : goal.returns
returns c = row-own
