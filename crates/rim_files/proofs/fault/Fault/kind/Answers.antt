use Rattle.std.proofs.Common.{rules}
use Rattle.rim_files.proofs.fault.Fault.kind.Goals as goal

pub returns-in-FileTooLarge : goal.returns-in-FileTooLarge
returns-in-FileTooLarge c = search rules
