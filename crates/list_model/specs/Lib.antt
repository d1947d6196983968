pub mod Content
pub mod Entries
pub mod Parts
pub mod Leading
pub mod inside
