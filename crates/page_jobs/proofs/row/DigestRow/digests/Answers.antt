use Rattle.std.proofs.Common.{rules}
use Rattle.page_jobs.proofs.row.DigestRow.digests.Goals as goal

pub returns : goal.returns
returns c = search rules
