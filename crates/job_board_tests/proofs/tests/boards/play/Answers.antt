use Rattle.job_board_tests.proofs.tests.boards.play.Goals as goal

pub play_on-played-requires-clause-keys : goal.play_on-played-requires-clause-keys
play_on-played-requires-clause-keys g c = c.has_all_keys.ensures.0 c.if-not-has_all_keys.false
