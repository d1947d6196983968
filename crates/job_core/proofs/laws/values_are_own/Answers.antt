use Rattle.job_core.proofs.OwnValues as valued
use Rattle.job_core.proofs.laws.values_are_own.Goals as goal

pub returns : goal.returns
returns c = valued.own_values
