use Rattle.ipa_layout.proofs.PlacedLaunchLaws.{end-is, known-is, lead-is, measured-is, source-is}
use Rattle.ipa_layout.proofs.laws.each_placed_item.Goals as goal

pub returns-clause-lead : goal.returns-clause-lead
returns-clause-lead c = lead-is

pub returns-clause-source : goal.returns-clause-source
returns-clause-source c = source-is

pub returns-clause-measured : goal.returns-clause-measured
returns-clause-measured c = measured-is

pub returns-clause-known : goal.returns-clause-known
returns-clause-known c = known-is

pub returns-clause-end : goal.returns-clause-end
returns-clause-end c = end-is
