use Rattle.std.proofs.Common.{refl}
use Rattle.page_jobs.proofs.page.Blob.new.Goals as goal

pub returns-clause-source : goal.returns-clause-source
returns-clause-source c = refl
