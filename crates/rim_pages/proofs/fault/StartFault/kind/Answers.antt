use Rattle.std.proofs.Common.{rules}
use Rattle.rim_pages.proofs.fault.StartFault.kind.Goals as goal

pub returns-in-Workers : goal.returns-in-Workers
returns-in-Workers c = search rules

pub returns-in-TooManyPages : goal.returns-in-TooManyPages
returns-in-TooManyPages c = search rules

pub returns-in-NoMemory : goal.returns-in-NoMemory
returns-in-NoMemory c = search rules
