use Rattle.std.proofs.Common.{rules}
use Rattle.page_jobs.proofs.table.Table.pages.Goals as goal

pub returns : goal.returns
returns c = search rules
