-- What a take may answer, and what it makes of a board. This project's choice.
use Rattle.std.specs.Prelude.{◌≡◌, ℕ, ◌<◌, true, false, ◌⊎◌, Some, slice_get}
use Rattle.launch_plan.specs.Links.{keys_of}
use Rattle.launch_plan.specs.Rows.{IsRowOf}
use Rattle.job_core.specs.declared.job.JobId.TheVariants.{Page, Launch}
use Rattle.job_core.specs.declared.job.Event.TheVariants.{Take}
use Rattle.job_tasks.specs.declared.work.Work.{Work}
use Rattle.job_tasks.specs.declared.work.Work.TheVariants as work
use Rattle.job_core.specs.Jobs.{NoneFree, NoneOpen, held_count, is_out, is_over}
use Rattle.job_board.specs.Board.{Adds, BoardView, SameRest}

abbrev pub Gives : {L : Type 0} → BoardView → ℕ → Work L → BoardView → Type 0
-- a free page, which the worker then holds
Gives old w (work.Page task) new =
    Adds old (Take w (Page task.number)) new × SameRest old new × (slice_get old.table.pages task.number ≡ Some task.page)
-- a free ready launch, which the worker then holds, with the digests of all its pages
Gives old w (work.Launch job) new =
    Adds old (Take w (Launch job.number)) new × SameRest old new × (slice_get old.plans job.number ≡ Some job.plan) × IsRowOf old.table (keys_of job.plan.links) job.row.digests
-- nothing that is free is ready, and something is not done
Gives old w work.Later new =
    (new ≡ old) × (is_out old.core w ≡ false) × (held_count old.core w ≡ 0) × (is_over old.core ≡ false)
    × NoneFree old.core.pages × NoneOpen old.core
Gives old w work.Busy new = (new ≡ old) × (is_out old.core w ≡ false) × (0 < held_count old.core w)
Gives old w work.Done new = (new ≡ old) × ((is_out old.core w ≡ true) ⊎ (is_over old.core ≡ true))
