use Rattle.job_core.proofs.LegalLists as runs
use Rattle.job_core.proofs.laws.events_are_few.Goals as goal

pub returns : goal.returns
returns c = runs.few_events
