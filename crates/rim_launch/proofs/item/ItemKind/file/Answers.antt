use Rattle.std.proofs.Common.{rules}
use Rattle.rim_launch.proofs.item.ItemKind.file.Goals as goal

pub returns-in-Kernel : goal.returns-in-Kernel
returns-in-Kernel c = search rules

pub returns-in-Initrd : goal.returns-in-Initrd
returns-in-Initrd c = search rules

pub returns-in-Dtb : goal.returns-in-Dtb
returns-in-Dtb c = search rules

pub returns-in-Raw : goal.returns-in-Raw
returns-in-Raw c = search rules

pub returns-in-Unknown : goal.returns-in-Unknown
returns-in-Unknown c = search rules
