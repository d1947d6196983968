use Rattle.ipa_layout.proofs.PlacedLaunchLaws.{few-pages}
use Rattle.ipa_layout.proofs.laws.pages_of_a_placed_launch.Goals as goal

pub returns : goal.returns
returns c = few-pages
