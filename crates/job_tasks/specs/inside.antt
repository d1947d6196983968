-- What the fields of this crate keep.
pub mod Rows
