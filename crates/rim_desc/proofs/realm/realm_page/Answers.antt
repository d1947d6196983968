use Rattle.std.proofs.Common.{rules}
use Rattle.rim_desc.specs.Realm.{realm_page_of}
use Rattle.rim_desc.proofs.realm.realm_page.Goals as goal

pub returns : goal.returns
unfolding realm_page_of
returns c = search rules
