-- A put under the lock is either taken, and adds its event, or leaves the board as it was. The workers' other contracts
-- need no lemma: they pass on what the board's calls say.
pub mod PutsTakenOrNot
