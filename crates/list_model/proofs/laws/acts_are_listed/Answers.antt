use Rattle.list_model.proofs.EntriesOfActs.{acts-of-pages, acts-of-runs}
use Rattle.list_model.proofs.laws.acts_are_listed.Goals as goal

pub returns-clause-runs : goal.returns-clause-runs
returns-clause-runs c = acts-of-runs

pub returns-clause-pages : goal.returns-clause-pages
returns-clause-pages c = acts-of-pages
