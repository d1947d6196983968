-- The work of chaining a launch, and what it gives. This project's choice.
use Rattle.std.specs.Prelude.{ℕ}
use Rattle.rim_desc.specs.declared.measurement.Measurement.{Measurement}
use Rattle.page_jobs.specs.Row.{RowView}
use Rattle.launch_plan.specs.Links.{PlanView}

pub record JobView : Type 0 where
  -- the launch's number: its plan's place among the plans of a run
  pub number : ℕ
  pub plan : PlanView
  -- with the digests of the plan's pages, in order
  pub row : RowView

-- a job that was done, and the measurement that it gave
pub record RimView : Type 0 where
  pub job : JobView
  pub value : Measurement
