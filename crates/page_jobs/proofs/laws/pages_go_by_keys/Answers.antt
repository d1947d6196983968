use Rattle.page_jobs.proofs.SearchByKey.{pages-named, same-page}
use Rattle.page_jobs.proofs.laws.pages_go_by_keys.Goals as goal

pub returns-clause-one : goal.returns-clause-one
returns-clause-one c = same-page

pub returns-clause-all : goal.returns-clause-all
returns-clause-all c = pages-named
