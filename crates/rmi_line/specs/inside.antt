-- What the loops of this crate keep, what is left of a line that is read, and what digits spell.
pub mod Words
pub mod Left
pub mod Digits
