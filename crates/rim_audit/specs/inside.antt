-- What the fields and loops of this crate keep.
pub mod Commands
pub mod Known
pub mod Beside
pub mod Copies
