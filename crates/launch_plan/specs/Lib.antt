pub mod Links
pub mod Prefixes
pub mod Fitting
pub mod Rows
pub mod Keys
pub mod Reading
pub mod inside
