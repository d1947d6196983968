pub mod Formats
pub mod Codes
pub mod Held
pub mod Written
pub mod Ends
