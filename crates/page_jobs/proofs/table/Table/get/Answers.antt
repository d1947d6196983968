use Rattle.std.proofs.Common.{◌∙◌, sym}
use Rattle.page_jobs.proofs.OneMoreDigest.{own-at}
use Rattle.page_jobs.proofs.table.Table.get.Goals as goal

pub returns-clause-own : goal.returns-clause-own
returns-clause-own c = own-at c.args.self.now c.args.key.now c.in_ok-slot.slot c.digest.result (sym c.slot_of.ensures ∙ c.in_ok-slot.was) c.digest.ensures.own
