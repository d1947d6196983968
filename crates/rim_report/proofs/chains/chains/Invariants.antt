use Rattle.rim_report.proofs.chains.chains.Given as goal

-- the run's own pages and plans, and a ledger that counts nothing
abbrev pub ghosts-chains_of_run-L-Run : goal.ghosts-chains_of_run-L-Run
ghosts-chains_of_run-L-Run a = record { pages = a.table.now.pages; plans = a.plans.now }
