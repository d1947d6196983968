pub mod Faults
pub mod Blocks
