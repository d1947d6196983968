use Rattle.page_jobs.proofs.BytesOfPages.{contents-page_bytes}
use Rattle.page_jobs.proofs.page.Blob.page.Goals as goal

pub returns-clause-contents : goal.returns-clause-contents
returns-clause-contents c = rw c.lent_bytes.ensures (contents-page_bytes c.args.self.lead c.args.number c.args.self.bytes.now c.args.self.inside)
