use Rattle.rtt_plan.proofs.ActsStepByStep.{page-tables, run-tables}
use Rattle.rtt_plan.proofs.laws.acts_make_the_tables.Goals as goal

pub returns-clause-runs : goal.returns-clause-runs
returns-clause-runs c = run-tables

pub returns-clause-pages : goal.returns-clause-pages
returns-clause-pages c = page-tables
