use Rattle.rmm_model.proofs.KindsAfterGifts.{kind_of-here, kind_of-other}
use Rattle.rmm_model.proofs.laws.kinds_after_a_gift.Goals as goal

pub returns-clause-given : goal.returns-clause-given
returns-clause-given c = kind_of-here

pub returns-clause-others : goal.returns-clause-others
returns-clause-others c = kind_of-other
