use Rattle.rim_binding.proofs.OneMessageOneExtension.{SameExtension, same_extension}
use Rattle.rim_binding.proofs.PagesOfParameters.{same_params, same_rec}
use Rattle.rim_binding.proofs.laws.a_message_determines_what_it_extends.Goals as goal

pub returns-clause-descriptors : goal.returns-clause-descriptors
returns-clause-descriptors c = λ r s x y r_long s_long x_fits y_fits same.
    (let both : SameExtension r s x y = same_extension r s x y r_long s_long x_fits y_fits same in (both.rims, both.parts))

pub returns-clause-realms : goal.returns-clause-realms
returns-clause-realms c = same_params

pub returns-clause-recs : goal.returns-clause-recs
returns-clause-recs c = same_rec
