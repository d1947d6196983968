use Rattle.list_model.proofs.RealmAndRecsCreated.{rec-leads}
use Rattle.list_model.proofs.laws.a_rec_is_created.Goals as goal

pub returns : goal.returns
returns c = rec-leads
