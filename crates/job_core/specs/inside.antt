-- What the fields of this crate keep.
-- What the fields of this crate keep.
pub mod Notes
pub mod Marks
pub mod Needs
pub mod Reaches
pub mod Lines
