use Rattle.job_workers_tests.proofs.tests.values_by.Goals as goal

pub run_by-requires-clause-keys : goal.run_by-requires-clause-keys
run_by-requires-clause-keys g c = λ lifetimes lives. c.has_all_keys.ensures.0 c.if-not-has_all_keys.false
