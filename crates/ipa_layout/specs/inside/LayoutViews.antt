-- What the program's values are in the model while it places a launch. This project's choice.
use Rattle.std.specs.Prelude.{ℕ, List, Option, Some, None, Result, Ok, Err}
use Rattle.std.specs.Global.{Global}
use Rattle.std.specs.declared.vec.Vec.{Vec}
use Rattle.refusal.specs.Answer.{◌>>=◌}
use Rattle.refusal.specs.declared.memory.NoMemory.{NoMemory}
use Rattle.fdt_header.specs.declared.fault.FdtFault.{FdtFault}
use Rattle.fdt_header.specs.Faults.{own_fault}
use Rattle.ipa_layout.specs.declared.dtb.Dtb.{Dtb}
use Rattle.ipa_layout.specs.declared.dtb.Dtb.TheVariants as dtb

-- the edited devicetree, if the launch has one, or why it cannot be edited
abbrev pub seen : Dtb → Result (Option (List ℕ)) FdtFault
seen dtb.AsFile = Ok None
seen (dtb.Edited bytes) = Ok (Some bytes.items)
seen (dtb.Refused fault) = Err fault

-- what an edit of a devicetree returned: its own fault refuses it, and want of memory is no fault of it
abbrev pub dtb_of : Result (Vec ℕ Global) FdtFault → Result Dtb NoMemory
dtb_of (Ok bytes) = Ok (dtb.Edited bytes)
dtb_of (Err fault) = own_fault fault >>= λ own. Ok (dtb.Refused own)
