use Rattle.rmm_model.proofs.SameSpaces.{same-page, same-run, same-table}
use Rattle.rmm_model.proofs.laws.steps_keep_spaces_the_same.Goals as goal

pub returns-clause-table : goal.returns-clause-table
returns-clause-table c = same-table

pub returns-clause-run : goal.returns-clause-run
returns-clause-run c = same-run

pub returns-clause-page : goal.returns-clause-page
returns-clause-page c = same-page
