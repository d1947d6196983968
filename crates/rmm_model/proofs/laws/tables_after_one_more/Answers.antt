use Rattle.rmm_model.proofs.OneMoreInSpace.{made-insert}
use Rattle.rmm_model.proofs.laws.tables_after_one_more.Goals as goal

pub returns : goal.returns
returns c s level base = made-insert s.tables (record { level = level; base = base })
