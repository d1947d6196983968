-- What contracts see of a row of digests. This project's choice.
use Rattle.std.specs.Prelude.{ℕ, List}
use Rattle.rim_desc.specs.declared.measurement.Measurement.{Measurement}

-- the digests of a row, in the order of the pages that they belong to, and how many it has room for
pub record RowView : Type 0 where
  pub digests : List Measurement
  pub room : ℕ
