use Rattle.rmm_model.proofs.EndsOfWalks.{walk-from, walk-least}
use Rattle.rmm_model.proofs.laws.walk_is_deepest.Goals as goal

pub returns-clause-start : goal.returns-clause-start
returns-clause-start c start x ts = walk-from start ts x

pub returns-clause-tables : goal.returns-clause-tables
returns-clause-tables c start x level base ts = walk-least start ts x level base
