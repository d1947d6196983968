use Rattle.job_core.proofs.LegalLists as runs
use Rattle.job_core.proofs.laws.pages_done_are_the_puts.Goals as goal

pub returns : goal.returns
returns c = runs.puts_add_up
