use Rattle.std.proofs.Common.{rules}
use Rattle.page_jobs.proofs.row.DigestRow.room.Goals as goal

pub returns : goal.returns
returns c = search rules
