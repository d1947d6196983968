use Rattle.job_workers_tests.proofs.tests.runs.a_page_and_its_launch_are_put_once.Goals as goal

pub put_once-requires-clause-keys : goal.put_once-requires-clause-keys
put_once-requires-clause-keys g c = c.has_all_keys.ensures.0 c.if-not-has_all_keys.false
