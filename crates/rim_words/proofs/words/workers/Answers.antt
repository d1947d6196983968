use Rattle.std.proofs.Common.{rules}
use Rattle.rim_words.proofs.words.workers.Goals as goal

pub returns-in-Some : goal.returns-in-Some
returns-in-Some c = search rules

pub returns-in-None : goal.returns-in-None
returns-in-None c = search rules
