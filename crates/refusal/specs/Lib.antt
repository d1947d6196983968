pub mod Checks
pub mod Answer
