use Rattle.std.proofs.Common.{◌∙◌, List, ap}
use Rattle.std.specs.List.{slice_get}
use Rattle.launch_plan.specs.Links.{PlanView}
use Rattle.job_board.proofs.NewBoards.{plan_fits}
use Rattle.rim_report.proofs.chains.Chaining.new.Goals as goal

pub worker_rows-requires : goal.worker_rows-requires
worker_rows-requires g c = record {
  most = λ l p at. plan_fits c.args.plans.now c.most_pages.result c.most_pages.ensures l p
      (ap (λ (plans : List PlanView). slice_get plans l) c.requires.plans ∙ at);
}
