use Rattle.page_jobs.proofs.BytesOfPages.{contents-page_bytes}
use Rattle.page_jobs.proofs.laws.contents_are_page_bytes.Goals as goal

pub returns : goal.returns
returns c = λ algo source lead k item low. contents-page_bytes lead k item low
