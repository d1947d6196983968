use Rattle.job_core.proofs.ReadyStaysReady as ready
use Rattle.job_core.proofs.laws.no_launch_is_early.Goals as goal

pub returns-clause-taken : goal.returns-clause-taken
returns-clause-taken c = ready.none_early

pub returns-clause-given : goal.returns-clause-given
returns-clause-given c = ready.given_ready
