use Rattle.job_core.proofs.HoldersByEvents as holders
use Rattle.job_core.proofs.LegalLists as runs
use Rattle.job_core.proofs.laws.a_job_has_one_holder.Goals as goal

pub returns-clause-one : goal.returns-clause-one
returns-clause-one c = holders.one_holder

pub returns-clause-state : goal.returns-clause-state
returns-clause-state c = holders.held_in_state

pub returns-clause-count : goal.returns-clause-count
returns-clause-count c = λ workers pages needs es h w. runs.holds_one workers pages needs es h w
