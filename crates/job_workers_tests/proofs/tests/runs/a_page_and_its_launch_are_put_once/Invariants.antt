use Rattle.job_workers_tests.proofs.tests.runs.a_page_and_its_launch_are_put_once.Given as goal

abbrev pub ghosts-put_once-L-Run : goal.ghosts-put_once-L-Run
ghosts-put_once-L-Run g a = record { pages = a.table.pages; plans = a.plans.now }

abbrev pub ghosts-put_once-L-Ledger : goal.ghosts-put_once-L-Ledger
ghosts-put_once-L-Ledger g a = record { name = a.blank.name; parts = a.blank.parts }
