pub mod Shared
pub mod Spaces
