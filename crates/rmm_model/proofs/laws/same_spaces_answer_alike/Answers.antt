use Rattle.rmm_model.proofs.SameSpaces.{deeper-alike, walk-same}
use Rattle.rmm_model.proofs.laws.same_spaces_answer_alike.Goals as goal

pub returns-clause-walk : goal.returns-clause-walk
returns-clause-walk c = walk-same

pub returns-clause-deeper : goal.returns-clause-deeper
returns-clause-deeper c s t level base top same = deeper-alike s.tables t.tables level base top same.tables
