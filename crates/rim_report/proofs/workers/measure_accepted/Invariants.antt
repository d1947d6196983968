use Rattle.std.proofs.Common.{map}
use Rattle.page_jobs.specs.Page.{page_view}
use Rattle.rim_report.proofs.workers.measure_accepted.Given as goal

-- the run's own pages and plans, and its ledger
abbrev pub ghosts-run-L-Run : goal.ghosts-run-L-Run
ghosts-run-L-Run g a = record { pages = map page_view a.pages.now; plans = a.plans.now }

abbrev pub ghosts-run-L-Ledger : goal.ghosts-run-L-Ledger
ghosts-run-L-Ledger g a = record { name = a.blank.name; parts = a.blank.parts }
