use Rattle.std.proofs.Common.{rules}
use Rattle.page_jobs.proofs.page.Page.is_same.Goals as goal

pub returns-then-eq : goal.returns-then-eq
returns-then-eq c = search rules

pub returns-else-eq : goal.returns-else-eq
returns-else-eq c = search rules
