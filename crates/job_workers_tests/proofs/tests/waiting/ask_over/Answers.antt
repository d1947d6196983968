use Rattle.job_workers_tests.proofs.tests.waiting.ask_over.Goals as goal

pub ask-requires-clause-keys : goal.ask-requires-clause-keys
ask-requires-clause-keys g c = c.has_all_keys.ensures.0 c.if-not-has_all_keys.false
