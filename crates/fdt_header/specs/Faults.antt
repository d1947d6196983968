-- Whose fault a fault is. This project's choice.
use Rattle.std.specs.Prelude.{Result, Ok, Err}
use Rattle.refusal.specs.declared.memory.NoMemory.{NoMemory}
use Rattle.fdt_header.specs.declared.fault.FdtFault.{FdtFault}
use Rattle.fdt_header.specs.declared.fault.FdtFault.TheVariants as fault

-- the devicetree's own fault; that memory was refused is no fault of the devicetree
abbrev pub own_fault : FdtFault → Result FdtFault NoMemory
own_fault fault.NoMemory = Err (record {})
own_fault e = Ok e
