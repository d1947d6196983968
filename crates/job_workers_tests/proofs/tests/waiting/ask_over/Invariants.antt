use Rattle.job_workers_tests.proofs.tests.waiting.ask_over.Given as goal

abbrev pub ghosts-ask-L-Run : goal.ghosts-ask-L-Run
ghosts-ask-L-Run g a = record { pages = a.table.pages; plans = a.plans.now }

abbrev pub ghosts-ask-L-Ledger : goal.ghosts-ask-L-Ledger
ghosts-ask-L-Ledger g a = record { name = a.blank.name; parts = a.blank.parts }
