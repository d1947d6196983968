-- What the fields of this crate keep.
-- What the loops of this crate keep.
pub mod Links
