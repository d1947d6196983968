use Rattle.std.proofs.Common.{rules}
use Rattle.page_jobs.proofs.row.DigestRow.reserve.Goals as goal

pub returns-clause-room : goal.returns-clause-room
returns-clause-room c = search rules
