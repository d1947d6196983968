use Rattle.std.proofs.Common.{refl}
use Rattle.rim_desc.specs.Page.{zeros}
use Rattle.rim_desc.proofs.page.zero_page.Goals as goal

pub returns : goal.returns
unfolding zeros
returns c = refl
