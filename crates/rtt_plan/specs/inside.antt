-- What the fields and loops of this crate keep.
pub mod PageRanges
pub mod Tables
pub mod Undone
