use Rattle.ipa_layout.proofs.PlacedLaunchLaws.{as-many-items, as-many-recs, same-number}
use Rattle.ipa_layout.proofs.laws.parts_of_a_placed_launch.Goals as goal

pub returns-clause-number : goal.returns-clause-number
returns-clause-number c = same-number

pub returns-clause-items : goal.returns-clause-items
returns-clause-items c = as-many-items

pub returns-clause-recs : goal.returns-clause-recs
returns-clause-recs c = as-many-recs
