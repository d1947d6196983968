use Rattle.std.proofs.Common.{rules}
use Rattle.rim_desc.specs.Rec.{rec_page_of}
use Rattle.rim_desc.proofs.rec.rec_page.Goals as goal

pub returns : goal.returns
unfolding rec_page_of
returns c = search rules
