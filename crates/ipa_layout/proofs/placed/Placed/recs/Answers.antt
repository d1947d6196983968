use Rattle.std.proofs.Common.{rules}
use Rattle.ipa_layout.proofs.placed.Placed.recs.Goals as goal

pub returns : goal.returns
returns c = search rules
