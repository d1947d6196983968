use Rattle.rim_starved.proofs.layers.board_made.Given as goal

abbrev pub ghosts-board_of-L-Run : goal.ghosts-board_of-L-Run
ghosts-board_of-L-Run g a = record { pages = a.table.pages; plans = a.plans.now }

abbrev pub ghosts-board_of-L-Ledger : goal.ghosts-board_of-L-Ledger
ghosts-board_of-L-Ledger g a = record { name = a.blank.name; parts = a.blank.parts }
