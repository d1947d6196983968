use Rattle.ipa_layout.proofs.PlacedLaunchLaws.{pages-checked_together}
use Rattle.ipa_layout.proofs.laws.pages_are_apart.Goals as goal

pub returns : goal.returns
returns c = pages-checked_together
