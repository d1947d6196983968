pub mod Details
pub mod Warned
pub mod Explained
pub mod CheckJson
pub mod inside
