use Rattle.list_model.proofs.RegionsAndItemsLead.{item-leads}
use Rattle.list_model.proofs.laws.an_item_gets_its_pages.Goals as goal

pub returns : goal.returns
returns c = item-leads
