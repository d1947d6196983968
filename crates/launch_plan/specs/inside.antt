-- What the fields of this crate keep.
-- What the fields and loops of this crate keep.
pub mod Filling
pub mod Counted
pub mod Steps
