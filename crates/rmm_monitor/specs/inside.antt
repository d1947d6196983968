-- What the fields and loops of this crate keep.
pub mod Owned
pub mod Monitor
pub mod Space
