use Rattle.std.proofs.Common.{rules}
use Rattle.ipa_layout.proofs.rec.PlacedRec.filled.Goals as goal

pub returns : goal.returns
returns c = search rules
