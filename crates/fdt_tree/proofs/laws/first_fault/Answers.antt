use Rattle.std.proofs.Common.{length, arith}
use Rattle.fdt_tree.specs.Scanning.{start}
use Rattle.fdt_tree.proofs.FirstFaultOfScan.{scan_fails, fault_scans}
use Rattle.fdt_tree.proofs.laws.first_fault.Goals as goal

pub returns : goal.returns
returns c =
    λ strings block f. (
      λ e. scan_fails strings (length block) start block f (omega arith) e,
      λ i. fault_scans strings i.0 (length block) start i.1 block i.2 f (omega arith) i.3 i.4,
    )
