use Rattle.rmm_model.proofs.SameSpaces.{same-refl, same-sym, same-trans}
use Rattle.rmm_model.proofs.laws.being_the_same_is_an_equivalence.Goals as goal

pub returns-clause-itself : goal.returns-clause-itself
returns-clause-itself c = same-refl

pub returns-clause-turned : goal.returns-clause-turned
returns-clause-turned c = same-sym

pub returns-clause-onward : goal.returns-clause-onward
returns-clause-onward c = same-trans
