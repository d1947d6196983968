use Rattle.std.proofs.Common.{[]}
use Rattle.job_workers_tests.proofs.tests.runs.run_over_seven.Given as goal

abbrev pub ghosts-run-L-Run : goal.ghosts-run-L-Run
ghosts-run-L-Run g a = record { pages = a.table.pages; plans = [] }

abbrev pub ghosts-run-L-Ledger : goal.ghosts-run-L-Ledger
ghosts-run-L-Ledger g a = record { name = a.blank.name; parts = a.blank.parts }
