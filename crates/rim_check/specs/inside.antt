pub mod Refused
pub mod Found
pub mod Listed
