use Rattle.std.proofs.Common.{rules}
use Rattle.page_jobs.proofs.table.empty_slots.Goals as goal

pub returns-clause-empty : goal.returns-clause-empty
returns-clause-empty c = search rules
