-- What the loops of this crate keep.
pub mod Filled
pub mod Unknown
pub mod Slots
