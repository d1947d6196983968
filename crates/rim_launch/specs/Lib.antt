pub mod Texts
pub mod Whole
pub mod Kinds
pub mod Steps
pub mod Realm
pub mod LaunchData
pub mod inside
