use Rattle.page_jobs.proofs.SearchByKey.{slot-key, slot-page}
use Rattle.page_jobs.proofs.SlotOfNextPage.{slot-next, slots-there}
use Rattle.page_jobs.proofs.laws.slots_go_by_keys.Goals as goal

pub returns-clause-page : goal.returns-clause-page
returns-clause-page c = slot-page

pub returns-clause-key : goal.returns-clause-key
returns-clause-key c = slot-key

pub returns-clause-there : goal.returns-clause-there
returns-clause-there c = slots-there

pub returns-clause-next : goal.returns-clause-next
returns-clause-next c = slot-next
