use Rattle.job_core.proofs.NeverStuck as stuck
use Rattle.job_core.proofs.laws.no_state_is_stuck.Goals as goal

pub returns : goal.returns
returns c = stuck.not_stuck
