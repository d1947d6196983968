use Rattle.rmm_model.proofs.SameSpaces.{overlaps-same}
use Rattle.rmm_model.proofs.laws.addresses_decide_ranges.Goals as goal

pub returns : goal.returns
returns c = overlaps-same
