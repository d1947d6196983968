pub mod Granules
pub mod Extensions
pub mod Rows
pub mod Stretches
pub mod inside
