pub mod Tasks
pub mod Beside
pub mod inside
