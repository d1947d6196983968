-- What the fields and loops of this crate keep.
pub mod Rec
