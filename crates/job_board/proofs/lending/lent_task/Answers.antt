use Rattle.std.proofs.Common.{◌∙◌, List, ap, arith}
use Rattle.std.specs.List.{slice_get}
use Rattle.launch_plan.specs.Links.{PlanView}
use Rattle.job_board.proofs.lending.lent_task.Goals as goal

pub filled_task-requires-clause-roomy : goal.filled_task-requires-clause-roomy
filled_task-requires-clause-roomy g c = λ l q there.
    let few = c.requires.most l q (ap (λ (plans : List PlanView). slice_get plans l) c.requires.plans ∙ there) in
    let kept = c.fill_row.ensures.room in
    omega (arith, few, kept)
