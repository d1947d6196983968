pub mod Audit
pub mod Listing
pub mod Trace
pub mod inside
