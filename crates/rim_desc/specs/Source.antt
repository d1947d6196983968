-- The order of sources. This project's choice.
use Rattle.std.specs.Ordering.{nat_cmp}
use Rattle.std.specs.declared.cmp.Ordering.{Ordering}
use Rattle.std.specs.declared.cmp.Ordering.TheVariants.{Less, Greater}
use Rattle.rim_desc.specs.declared.source.Source.{Source}
use Rattle.rim_desc.specs.declared.source.Source.TheVariants.{File, Edited}

-- files in the order of their numbers, and after them edited devicetrees in the order of their launches
abbrev pub source_cmp : Source → Source → Ordering
source_cmp (File a) (File b) = nat_cmp a b
source_cmp (File a) (Edited b) = Less
source_cmp (Edited a) (File b) = Greater
source_cmp (Edited a) (Edited b) = nat_cmp a b
