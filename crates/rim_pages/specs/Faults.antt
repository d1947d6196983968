-- The words of the faults of measuring. This project's choice.
use Rattle.std.specs.Prelude.{ℕ, List, codes}
use Rattle.rim_pages.specs.declared.fault.StartFault.{StartFault}
use Rattle.rim_pages.specs.declared.fault.StartFault.TheVariants as start

abbrev pub start_kind_of : StartFault → List ℕ
start_kind_of start.Workers = codes "workers"
start_kind_of start.TooManyPages = codes "too-many-pages"
start_kind_of start.NoMemory = codes "no-memory"
