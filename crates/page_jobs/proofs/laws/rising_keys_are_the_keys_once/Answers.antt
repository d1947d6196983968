use Rattle.page_jobs.proofs.RisingKeys.{rising-only, rising_keys-rise, rising_keys-same}
use Rattle.page_jobs.proofs.laws.rising_keys_are_the_keys_once.Goals as goal

pub returns-clause-rising : goal.returns-clause-rising
returns-clause-rising c = rising_keys-rise

pub returns-clause-same : goal.returns-clause-same
returns-clause-same c = rising_keys-same

pub returns-clause-only : goal.returns-clause-only
returns-clause-only c = rising-only
