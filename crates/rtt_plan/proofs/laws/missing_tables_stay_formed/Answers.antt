use Rattle.rtt_plan.proofs.WithMissingTables.{formed-after, used-after, used-more}
use Rattle.rtt_plan.proofs.laws.missing_tables_stay_formed.Goals as goal

pub returns-clause-formed : goal.returns-clause-formed
returns-clause-formed c = formed-after

pub returns-clause-used : goal.returns-clause-used
returns-clause-used c = used-after

pub returns-clause-grown : goal.returns-clause-grown
returns-clause-grown c = used-more
