use Rattle.job_core.proofs.LegalLists as runs
use Rattle.job_core.proofs.OwnValues as valued
use Rattle.job_core.proofs.laws.a_job_is_put_once.Goals as goal

pub returns-clause-once : goal.returns-clause-once
returns-clause-once c = runs.put_once

pub returns-clause-done : goal.returns-clause-done
returns-clause-done c = valued.done_are_put
