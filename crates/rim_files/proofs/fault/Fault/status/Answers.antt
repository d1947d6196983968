use Rattle.std.proofs.Common.{rules}
use Rattle.rim_files.proofs.fault.Fault.status.Goals as goal

pub returns-in-NoMemory-3-clause-value : goal.returns-in-NoMemory-3-clause-value
returns-in-NoMemory-3-clause-value c = search rules
