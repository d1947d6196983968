use Rattle.std.proofs.Common.{rules}
use Rattle.page_jobs.proofs.table.Table.digest.Goals as goal

pub returns-in_err-get-clause-own : goal.returns-in_err-get-clause-own
returns-in_err-get-clause-own c = search rules
