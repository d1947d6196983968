use Rattle.list_model.proofs.RegionsAndItemsLead.{region-leads}
use Rattle.list_model.proofs.laws.a_region_becomes_ram.Goals as goal

pub returns : goal.returns
returns c = region-leads
