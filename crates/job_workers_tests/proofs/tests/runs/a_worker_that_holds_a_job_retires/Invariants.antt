use Rattle.std.proofs.Common.{[]}
use Rattle.job_workers_tests.proofs.tests.runs.a_worker_that_holds_a_job_retires.Given as goal

abbrev pub ghosts-run_after_take-L-Run : goal.ghosts-run_after_take-L-Run
ghosts-run_after_take-L-Run g a = record { pages = a.table.pages; plans = [] }

abbrev pub ghosts-run_after_take-L-Ledger : goal.ghosts-run_after_take-L-Ledger
ghosts-run_after_take-L-Ledger g a = record { name = a.blank.name; parts = a.blank.parts }
