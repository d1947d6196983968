pub mod Faults
pub mod Pages
pub mod inside
