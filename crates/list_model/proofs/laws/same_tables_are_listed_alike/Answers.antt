use Rattle.list_model.proofs.EntriesOfActs.{pages-alike, runs-alike}
use Rattle.list_model.proofs.laws.same_tables_are_listed_alike.Goals as goal

pub returns-clause-runs : goal.returns-clause-runs
returns-clause-runs c = runs-alike

pub returns-clause-pages : goal.returns-clause-pages
returns-clause-pages c = pages-alike
