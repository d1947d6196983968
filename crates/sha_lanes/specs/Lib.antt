pub mod Sums
pub mod inside
