use Rattle.rtt_plan.proofs.AmongActs.{among-pages, among-runs}
use Rattle.rtt_plan.proofs.laws.acts_set_the_runs_and_the_pages.Goals as goal

pub returns-clause-runs : goal.returns-clause-runs
returns-clause-runs c = among-runs

pub returns-clause-pages : goal.returns-clause-pages
returns-clause-pages c = among-pages
