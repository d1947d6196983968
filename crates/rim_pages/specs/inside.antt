-- What the loops of this crate keep.
pub mod Ends
pub mod Sources
