use Rattle.job_workers_tests.proofs.tests.values_by.Given as goal

abbrev pub ghosts-run_by-L-Run : goal.ghosts-run_by-L-Run
ghosts-run_by-L-Run g a = record { pages = a.table.pages; plans = a.plans.now }

abbrev pub ghosts-run_by-L-Ledger : goal.ghosts-run_by-L-Ledger
ghosts-run_by-L-Ledger g a = record { name = a.blank.name; parts = a.blank.parts }
