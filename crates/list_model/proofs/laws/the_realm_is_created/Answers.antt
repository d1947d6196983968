use Rattle.list_model.proofs.RealmAndRecsCreated.{realm-leads}
use Rattle.list_model.proofs.laws.the_realm_is_created.Goals as goal

pub returns : goal.returns
returns c = realm-leads
