use Rattle.job_board_tests.proofs.tests.boards.play.Given as goal

abbrev pub ghosts-play_on-L-Run : goal.ghosts-play_on-L-Run
ghosts-play_on-L-Run g a = record { pages = a.table.pages; plans = a.plans.now }

abbrev pub ghosts-play_on-L-Ledger : goal.ghosts-play_on-L-Ledger
ghosts-play_on-L-Ledger g a = record { name = a.blank.name; parts = a.blank.parts }
