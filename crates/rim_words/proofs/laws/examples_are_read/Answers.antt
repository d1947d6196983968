use Rattle.std.proofs.Common.{refl}
use Rattle.clap.proofs.OnLiterals.{clap_on_literals}
use Rattle.rim_words.proofs.laws.examples_are_read.Goals as goal

pub returns-clause-taken : goal.returns-clause-taken
unfolding clap_on_literals
returns-clause-taken c = (refl, refl)

pub returns-clause-read : goal.returns-clause-read
unfolding clap_on_literals
returns-clause-read c = (refl, refl, refl, refl, refl, refl, refl, refl, refl, refl, refl, (λ n e. e), (λ n e. e.0))

pub returns-clause-refused : goal.returns-clause-refused
unfolding clap_on_literals
returns-clause-refused c = (((λ e. cc), refl), ((λ e. cc), refl), ((λ e. cc), refl), ((λ e. cc), refl), ((λ e. cc), refl), ((λ e. cc), refl), ((λ e. cc), refl), ((λ e. cc), refl))
