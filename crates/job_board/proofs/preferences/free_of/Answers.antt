use Rattle.job_board.proofs.preferences.free_of.Goals as goal

-- a page that is not free is not given
pub returns-in_default : goal.returns-in_default
returns-in_default c = c.requires

pub returns-in_default-2 : goal.returns-in_default-2
returns-in_default-2 c = c.requires
