use Rattle.rim_starved.proofs.layers.board_made.Goals as goal

pub board_of-requires-clause-keys : goal.board_of-requires-clause-keys
board_of-requires-clause-keys g c = c.has_all_keys.ensures.0 c.if-not-has_all_keys.false
